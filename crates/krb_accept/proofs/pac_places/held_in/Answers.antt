use Rattle.krb_accept.proofs.Pacs.{found_in_so}
use Rattle.krb_accept.proofs.pac_places.held_in.Goals as goal

pub returns-then-is_if_relevant : goal.returns-then-is_if_relevant
returns-then-is_if_relevant c =
    found_in_so _ c.args.element.now c.content_of.result.now c.held_within.result c.if-is_if_relevant.ensures c.content_of.ensures c.held_within.ensures
