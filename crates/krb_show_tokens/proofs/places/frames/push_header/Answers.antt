use Rattle.std.proofs.Common.{ap, ◌∙◌, [], ◌∷◌, ◌++◌, Option}
use Rattle.krb_message_fields.specs.declared.places.place.Place.{Place}
use Rattle.krb_show_tokens.proofs.PlacesAdded.{header_added}
use Rattle.krb_show_tokens.proofs.places.frames.push_header.Goals as goal

pub returns : goal.returns
returns c = header_added c.args.header.start c.args.header.octets.now c.args.places.now.items _ _ _
    (c.in_ok-push.ensures.items ∙ ap (λ (p : Option Place). c.args.places.now.items ++ p ∷ []) c.place.ensures) c.in_ok-push_fields.ensures
    (c.in_ok-push-2.ensures.items ∙ ap (λ (p : Option Place). c.push_fields.new.places.items ++ p ∷ []) c.place-2.ensures)
