use Rattle.std.proofs.Common.{refl, sym, ◌∙◌}
use Rattle.krb_files.specs.Laws.{ok_is}
use Rattle.krb_files.specs.Ccache.{ccache_octets}
use Rattle.krb_files.specs.declared.ccache.error.CcacheError.{CcacheError}
use Rattle.krb_files.proofs.WholeCcache.{ccache_takes, ccache_again}
use Rattle.krb_files.proofs.CcacheWrites.{appended}
use Rattle.krb_files.proofs.ccache.laws.readings.Goals as goal

pub returns-clause-one : goal.returns-clause-one
returns-clause-one c = λ b x y p q. ok_is CcacheError x y (sym (ccache_again b x p) ∙ ccache_again b y q)

pub returns-clause-written : goal.returns-clause-written
returns-clause-written c = λ x fits. (refl, fits)

pub returns-clause-read_again : goal.returns-clause-read_again
returns-clause-read_again c = λ x fits. ccache_again (ccache_octets x) x (refl, fits)

pub returns-clause-written_back : goal.returns-clause-written_back
returns-clause-written_back c = λ b x fits e. sym (ccache_takes b x fits e).0

pub returns-clause-appended : goal.returns-clause-appended
returns-clause-appended c = appended
