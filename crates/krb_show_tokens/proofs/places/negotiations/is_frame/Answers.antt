use Rattle.std.proofs.Common.{sym, ◌∙◌}
use Rattle.krb_show_tokens.proofs.OneFrame.{of_none}
use Rattle.krb_show_tokens.proofs.PlacesAdded.{no_whole, not_whole}
use Rattle.krb_show_tokens.proofs.places.negotiations.is_frame.Goals as goal

pub returns-then-not-is_empty : goal.returns-then-not-is_empty
returns-then-not-is_empty c = not_whole 0 _ _ _ _ c.args.octets.now c.in-Some.ensures (sym c.is_empty.ensures ∙ search)

pub returns-in-None : goal.returns-in-None
returns-in-None c = no_whole c.args.octets.now (of_none c.element.result _ _ c.element.ensures c.in-None.is)
