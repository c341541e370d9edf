use Rattle.std.proofs.Common.{subst, arith}
use Rattle.krb_files.specs.FieldReading.{Gives}
use Rattle.krb_files.proofs.WholeKeytab.{is_found, keytab_again}
use Rattle.krb_files.proofs.keytab.view.KeytabView.new.Goals as goal

pub returns-clause-found : goal.returns-clause-found
returns-clause-found c = is_found c.args.octets.now c.keytab_at.result (λ i. omega (arith, c.type_inv.octets i)) c.keytab_at.ensures

pub returns-clause-only : goal.returns-clause-only
returns-clause-only c = λ entries k. subst (λ r. Gives (λ v. v) c.keytab_at.result r) (keytab_again c.args.octets.now entries k) c.keytab_at.ensures
