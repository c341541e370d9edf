use Rattle.std.proofs.lemmas.Result.{on_ok_weaker}
use Rattle.std.proofs.Common.{ap, ◌∙◌, [], ◌∷◌, ◌++◌, Option}
use Rattle.krb_message_fields.specs.declared.places.place.Place.{Place}
use Rattle.krb_show_tokens.proofs.PlacesAdded.{kerberos_added}
use Rattle.krb_show_tokens.proofs.places.frames.push_kerberos.Goals as goal

pub returns : goal.returns
returns c = on_ok_weaker c.push_behind_id.result
    (λ behind. kerberos_added c.args.inner.start _ _ _ _ c.args.inner.octets.now c.args.places.now.items _ _ c.is_proxy_id.result c.in-Some.ensures
    (c.in_ok-push.ensures.items ∙ ap (λ (p : Option Place). c.args.places.now.items ++ p ∷ []) c.place.ensures) c.is_proxy_id.ensures behind)
    c.push_behind_id.ensures
