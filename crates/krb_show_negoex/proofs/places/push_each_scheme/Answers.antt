use Rattle.std.proofs.Common.{◌++◌, ◌∷◌, [], ◌∙◌, ap, Option}
use Rattle.krb_message_fields.specs.declared.places.place.Place.{Place}
use Rattle.krb_show_negoex.proofs.NegoexPlaces.{scheme_more}
use Rattle.krb_show_negoex.proofs.places.push_each_scheme.Goals as goal

pub loop-n-preserved : goal.loop-n-preserved
loop-n-preserved c =
    scheme_more c.args.first c.loop-n.n c.args.places.now.items c.loop-n.places.items c.push.new.self.items c.loop-n.invariant
    (c.in_ok-push.ensures.items ∙ ap (λ (x : Option Place). c.loop-n.places.items ++ x ∷ []) c.place_at.ensures)
