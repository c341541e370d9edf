use Rattle.std.proofs.Common.{refl, sym, ◌∙◌}
use Rattle.krb_files.specs.Laws.{ok_is}
use Rattle.krb_files.specs.declared.keytab.error.KeytabError.{KeytabError}
use Rattle.krb_files.specs.KeytabWritten.{keytab_octets}
use Rattle.krb_files.proofs.WholeKeytab.{keytab_again}
use Rattle.krb_files.proofs.KeytabWrites.{written_is, written_back, appended}
use Rattle.krb_files.proofs.keytab.laws.readings.Goals as goal

pub returns-clause-one : goal.returns-clause-one
returns-clause-one c = λ b es fs x y. ok_is KeytabError es fs (sym (keytab_again b es x) ∙ keytab_again b fs y)

pub returns-clause-written : goal.returns-clause-written
returns-clause-written c = λ es fits. written_is (keytab_octets es) es refl fits

pub returns-clause-written_back : goal.returns-clause-written_back
returns-clause-written_back c = written_back

pub returns-clause-appended : goal.returns-clause-appended
returns-clause-appended c = appended
