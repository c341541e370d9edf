use Rattle.std.proofs.Common.{subst, arith}
use Rattle.krb_files.specs.FieldReading.{Gives}
use Rattle.krb_files.proofs.WholeCcache.{is_found, ccache_again}
use Rattle.krb_files.proofs.ccache.view.CcacheView.new.Goals as goal

pub returns-clause-found : goal.returns-clause-found
returns-clause-found c = is_found c.args.octets.now c.ccache_at.result (λ i. omega (arith, c.type_inv.octets i)) c.ccache_at.ensures

pub returns-clause-only : goal.returns-clause-only
returns-clause-only c = λ cache is. subst (λ r. Gives (λ v. v) c.ccache_at.result r) (ccache_again c.args.octets.now cache is) c.ccache_at.ensures
