use Rattle.std.proofs.Common.{ap, ◌∙◌, [], ◌∷◌, ◌++◌, Option}
use Rattle.krb_message_fields.specs.declared.places.place.Place.{Place}
use Rattle.krb_show_tokens.proofs.PlacesAdded.{kpasswd_added}
use Rattle.krb_show_tokens.proofs.kpasswd.places.push_frame.Goals as goal

pub returns : goal.returns
returns c = kpasswd_added _ c.args.first.octets.now c.args.private.octets.now _ c.args.frame.start _ _ c.args.places.now.items _ _ _ _
    c.requires.frame c.requires.first c.requires.private c.first_row.ensures c.in_ok-push_numbers.ensures c.in_ok-push_row.ensures c.in_ok-push_row-2.ensures
    (c.in_ok-push.ensures.items ∙ ap (λ (p : Option Place). c.push_row-2.new.places.items ++ p ∷ []) c.place.ensures)
