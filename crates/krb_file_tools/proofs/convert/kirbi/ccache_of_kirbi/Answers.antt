use Rattle.std.proofs.lemmas.Result.{IfErr-weaker, IfOk-weaker, err_from_is_err_and}
use Rattle.krb_file_tools.proofs.Refusals.{inside_broken, inside_found, message_broken}
use Rattle.krb_file_tools.proofs.convert.kirbi.ccache_of_kirbi.Goals as goal

pub returns-in_err-message-clause-rejected : goal.returns-in_err-message-clause-rejected
returns-in_err-message-clause-rejected c =
    let p = err_from_is_err_and c.from_residual.result c.from_residual.ensures.1 in
    rw (p.1, p.2) (message_broken _ _ _ c.args.octets.now c.in_err-message.field-0.0 c.in_err-message.ensures.rejected)

pub returns-clause-found : goal.returns-clause-found
returns-clause-found c =
    IfOk-weaker c.of_message-converted.result _ _
    (λ x h. inside_found _ _ _ c.args.octets.now c.in_ok-message.message c.get.result.now x.octets.items x.left_out.items c.get.ensures c.in_ok-message.ensures.found h)
    c.of_message-converted.ensures.found

pub returns-clause-rejected : goal.returns-clause-rejected
returns-clause-rejected c =
    IfErr-weaker c.of_message-converted.result _ _
    (λ e h. inside_broken _ _ _ c.args.octets.now c.in_ok-message.message c.get.result.now e c.get.ensures c.in_ok-message.ensures.found h)
    c.of_message-converted.ensures.rejected
