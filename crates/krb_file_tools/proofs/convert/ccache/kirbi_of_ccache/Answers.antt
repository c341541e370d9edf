use Rattle.std.proofs.Common.{inr}
use Rattle.std.proofs.lemmas.Result.{IfErr-weaker, IfOk-weaker}
use Rattle.krb_file_tools.specs.Back.{no_cache}
use Rattle.krb_file_tools.proofs.convert.ccache.kirbi_of_ccache.Goals as goal

pub returns-in-Err-clause-rejected : goal.returns-in-Err-clause-rejected
returns-in-Err-clause-rejected c = inr (no_cache c.in-Err.why c.in-Err.ensures.exact)

pub returns-clause-found : goal.returns-clause-found
returns-clause-found c = IfOk-weaker c.of_tickets.result _ _ (λ x h. h c.args.octets.now c.in-Ok.ensures.found) c.of_tickets.ensures.found

pub returns-clause-rejected : goal.returns-clause-rejected
returns-clause-rejected c = IfErr-weaker c.of_tickets.result _ _ (λ e h. h c.args.octets.now c.in-Ok.ensures.found) c.of_tickets.ensures.rejected
