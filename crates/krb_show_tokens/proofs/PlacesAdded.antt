-- Places that are added one behind another.
use Rattle.std.proofs.Common.{◌≡◌, ◌==◌, Bool, false, ℕ, List, [], ◌∷◌, ◌++◌, drop, length, ap, ◌∙◌, refl, subst, inr, Option}
use Rattle.std.proofs.lemmas.Bool.{ltb-false, true≢false}
use Rattle.std.proofs.lemmas.List.{length-take-le}
use Rattle.std.specs.Prelude.{codes}
use Rattle.krb_message_fields.specs.declared.places.place.Place.{Place}
use Rattle.krb_show.specs.InnerPlaces.{place_at}
use Rattle.krb_show_tokens.specs.MessagePlaces.{AreMessages, adds_kpasswd, adds_row, first_row, kpasswd_places}
use Rattle.krb_show_tokens.specs.Parts.{IsElement, IsElementAt, IsSplit, NoElement, further}
use Rattle.krb_show_tokens.specs.Places.{number_places}
use Rattle.krb_show_tokens.specs.TokenPlaces.{AreFrameParts, adds_behind_id, adds_fields, adds_header, adds_kerberos, is_proxy_id, tells_frame}
use Rattle.krb_show_tokens.proofs.FrontElements.{one_element}

-- ---- frames

pub no_frame : (start : ℕ) (octets : List ℕ) → NoElement octets → (content_at mechanism_at inner_at : ℕ) (content mechanism inner : List ℕ)
    → AreFrameParts start content_at mechanism_at inner_at content mechanism inner octets → ⊥
no_frame start octets none content_at mechanism_at inner_at content mechanism inner p = none content p.rest p.frame.is_element

pub no_mechanism : (start at next : ℕ) (found rest octets : List ℕ) → IsElementAt start at next found rest octets → NoElement found
    → (content_at mechanism_at inner_at : ℕ) (content mechanism inner : List ℕ)
    → AreFrameParts start content_at mechanism_at inner_at content mechanism inner octets → ⊥
no_mechanism start at next found rest octets e none content_at mechanism_at inner_at content mechanism inner p =
    let same = one_element content p.rest found rest octets p.frame.is_element e.is_element in
    none mechanism inner (subst (IsElement mechanism inner) same.0 p.parts.is_element)

-- no frame is all of octets behind whose first element others stand
pub not_whole : (start at next : ℕ) (found rest octets : List ℕ) → IsElementAt start at next found rest octets → (length rest == 0) ≡ false
    → tells_frame octets false
not_whole start at next found rest octets e more = inr (
  λ content f. true≢false (ap (λ (l : List ℕ). length l == 0) ((one_element content [] found rest octets f e.is_element).1) ∙ more),
  refl,
)

pub no_whole : (octets : List ℕ) → NoElement octets → tells_frame octets false
no_whole octets none = inr (λ content f. none content [] f, refl)

-- ---- headers of IAKERB, and what stands behind a token id

pub header_added : (start : ℕ) (octets : List ℕ) (old first second new : List (Option Place)) → first ≡ old ++ place_at start (length octets) ∷ []
    → adds_fields 3 start octets first second → new ≡ second ++ place_at start (length octets) ∷ [] → adds_header start octets old new
header_added start octets old first second new begun fields ended = (second, (first, begun, fields), ended)

pub kerberos_added : (start front_at next : ℕ) (front rest octets : List ℕ) (old between new : List (Option Place)) (is_proxied : Bool)
    → IsSplit start 2 front_at next front rest octets → between ≡ old ++ place_at front_at (length front) ∷ [] → is_proxied ≡ is_proxy_id octets
    → adds_behind_id is_proxied next rest between new → adds_kerberos start octets old new
kerberos_added start front_at next front rest octets old between new is_proxied s id is_id behind =
    let size : length front ≡ 2 = ap length s.is_front ∙ length-take-le 2 octets (ltb-false (length octets) 2 s.long) in
    let placed : place_at front_at (length front) ≡ place_at start 2 =
    ap (λ (at : ℕ). place_at at (length front)) s.is_front_at ∙ ap (place_at start) size in
    let moved : adds_behind_id (is_proxy_id octets) (further start 2) rest between new =
    subst (λ (at : ℕ). adds_behind_id (is_proxy_id octets) at rest between new) s.is_next
    (subst (λ (b : Bool). adds_behind_id b next rest between new) is_id behind) in
    let told : adds_behind_id (is_proxy_id octets) (further start 2) (drop 2 octets) between new =
    subst (λ (l : List ℕ). adds_behind_id (is_proxy_id octets) (further start 2) l between new) s.is_rest moved in
    rw (s.long) (between, id ∙ ap (λ (p : Option Place). old ++ p ∷ []) placed, told)

-- ---- kpasswd messages

pub kpasswd_added : (row first private : List ℕ) (size start first_at private_at : ℕ) (old numbers one two new : List (Option Place)) → start ≡ 0
    → first_at ≡ 6 → private_at ≡ further 6 (length first) → row ≡ first_row first → numbers ≡ old ++ number_places start size
    → adds_row row first_at first numbers one → adds_row (codes "KRB-PRIV") private_at private one two → new ≡ two ++ place_at start size ∷ []
    → adds_kpasswd first private size old new
kpasswd_added row first private size start first_at private_at old numbers one two new is_start is_first is_private is_row is_numbers request rest whole =
    let at_six : adds_row row 6 first numbers one = subst (λ (at : ℕ). adds_row row at first numbers one) is_first request in (
      two,
      (
        one,
        (
          numbers,
          is_numbers ∙ ap (λ (at : ℕ). old ++ number_places at size) is_start,
          subst (λ (name : List ℕ). adds_row name 6 first numbers one) is_row at_six,
        ),
        subst (λ (at : ℕ). adds_row (codes "KRB-PRIV") at private one two) is_private rest,
      ),
      whole ∙ ap (λ (at : ℕ). two ++ place_at at size ∷ []) is_start,
    )

pub no_kpasswd : (octets : List ℕ) (places : List (Option Place)) → ((first private : List ℕ) → AreMessages first private octets → ⊥) → places ≡ []
    → kpasswd_places octets places
no_kpasswd octets places none empty = inr (none, empty)
