use Rattle.std.proofs.Common.{ap, ◌∙◌}
use Rattle.krb_accept.specs.Frame.{in_frame}
use Rattle.krb_accept.specs.declared.frame.InnerToken.TheVariants as inner
use Rattle.krb_accept.proofs.error_message.error_reply_token.Goals as goal

pub returns-clause-made : goal.returns-clause-made
returns-clause-made c =
    (c.in_ok-message.message.items, c.in_ok-message.ensures.made, c.in_ok-token.ensures ∙ ap (in_frame inner.KrbError) c.deref.ensures.value)
