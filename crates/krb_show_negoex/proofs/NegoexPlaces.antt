-- Places of messages of NEGOEX.
use Rattle.std.proofs.Common.{◌≡◌, ℕ, suc, ◌+◌, ◌*◌, List, [], ◌∷◌, ◌++◌, take, drop, sym, ap, subst, ◌∙◌, Option, add-one}
use Rattle.krb_message_fields.specs.declared.places.place.Place.{Place}
use Rattle.krb_show.proofs.PlaceLists.{behind_both}
use Rattle.krb_show.specs.InnerPlaces.{place_at}
use Rattle.krb_show_negoex.specs.Negoex.{IsFollowed, own_length}
use Rattle.krb_show_negoex.specs.NegoexPlaces.{AddsMessage, AddsMessages, each_extension, each_scheme, extension_places}

-- one more scheme
pub scheme_more : (first n : ℕ) (old between new : List (Option Place)) → between ≡ old ++ each_scheme first n
    → new ≡ between ++ place_at (first + 16 * n) 16 ∷ [] → new ≡ old ++ each_scheme first (n + 1)
scheme_more first n old between new e f =
    behind_both old (each_scheme first n) (place_at (first + 16 * n) 16 ∷ []) between new e f
    ∙ ap (λ (k : ℕ). old ++ each_scheme first k) (sym (add-one n))

-- one more extension
pub extension_more : (base : ℕ) (octets : List ℕ) (offset n : ℕ) (old between new : List (Option Place)) → between ≡ old ++ each_extension base octets offset n
    → new ≡ between ++ extension_places base octets (offset + 12 * n) → new ≡ old ++ each_extension base octets offset (n + 1)
extension_more base octets offset n old between new e f =
    behind_both old (each_extension base octets offset n) (extension_places base octets (offset + 12 * n)) between new e f
    ∙ ap (λ (k : ℕ). old ++ each_extension base octets offset k) (sym (add-one n))

-- a message, and those behind it
pub one_message : (n base size : ℕ) (rest first others : List ℕ) (old between new : List (Option Place)) → IsFollowed rest → size ≡ own_length rest
    → first ≡ take size rest → others ≡ drop size rest → AddsMessage base first old between → AddsMessages n (base + size) others between new
    → AddsMessages (suc n) base rest old new
one_message n base size rest first others old between new followed is front back added more = (
  followed,
  between,
  subst (λ (f : List ℕ). AddsMessage base f old between) (front ∙ ap (λ (k : ℕ). take k rest) is) added,
  subst (λ (k : ℕ). AddsMessages n (base + k) (drop k rest) between new) is (subst (λ (o : List ℕ). AddsMessages n (base + size) o between new) back more),
)
