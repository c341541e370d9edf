use Rattle.krb_show_tokens.proofs.FrontElements.{no_first}
use Rattle.krb_show_tokens.proofs.OneFrame.{of_none}
use Rattle.krb_show_tokens.proofs.kpasswd.places.messages_in.Goals as goal

pub returns-in_default-element : goal.returns-in_default-element
returns-in_default-element c = no_first c.args.frame.octets.now c.in-Some.messages.octets.now c.in-Some.ensures.is_rest
    (of_none c.element.result _ _ c.element.ensures c.in_default-element.is)
