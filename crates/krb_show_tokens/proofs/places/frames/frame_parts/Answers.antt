use Rattle.krb_show_tokens.proofs.OneFrame.{of_none}
use Rattle.krb_show_tokens.proofs.PlacesAdded.{no_frame, no_mechanism}
use Rattle.krb_show_tokens.proofs.places.frames.frame_parts.Goals as goal

pub returns-in_default : goal.returns-in_default
returns-in_default c = no_frame c.args.frame.start c.args.frame.octets.now (of_none c.element.result _ _ c.element.ensures c.in_default.is)

pub returns-in_default-element : goal.returns-in_default-element
returns-in_default-element c = no_mechanism c.args.frame.start _ _ _ _ c.args.frame.octets.now c.in-Some.ensures
    (of_none c.element-2.result _ _ c.element-2.ensures c.in_default-element.is)
