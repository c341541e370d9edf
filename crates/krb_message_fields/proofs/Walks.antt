-- Walks along elements: what is there so far, with whatever the rest has, is what the whole has.
use Rattle.std.proofs.Common.{◌≡◌, ℕ, suc, ◌+◌, ◌-◌, ◌^◌, ◌<◌, ◌≤◌, List, [], ◌∷◌, ◌++◌, length, take, drop, get_or, refl, sym, ap, subst, ◌∙◌, length-append, length-drop, length-take, arith}
use Rattle.std.proofs.lemmas.List.{drop-drop}
use Rattle.krb_der_core.specs.declared.error.Asn1DerError.{Asn1DerError}
use Rattle.krb_der_core.specs.declared.error.Asn1DerError.TheVariants as errors
use Rattle.krb_der_core.specs.Tlv.{tlv}
use Rattle.krb_der_core.specs.Reading.{TakesPrefix, NoPrefix, RejectsPrefix, Elements}
use Rattle.krb_message_fields.specs.declared.places.place.Place.{Place}
use Rattle.krb_message_fields.specs.Places.{IsAt}
use Rattle.krb_message_fields.specs.Rows.{Element, IsField, IsItem, NoField, NoFront, NoItem, octets_of}
use Rattle.krb_message_fields.specs.RowLaws.{tlv_length, tlv_some, stands_at, stands_inside, nothing_in_front, field_stands, field_here, field_after, no_field_after, no_field_there, item_stands, item_here, item_after, no_item_after, no_item_there}
use Rattle.krb_message_fields.specs.declared.places.place.Step.{Step}
use Rattle.krb_message_fields.specs.Places.{octets_at}
use Rattle.krb_message_fields.specs.Paths.{IsPlace, IsStep, Leads, LeadsNowhere}
use Rattle.krb_message_fields.specs.PathLaws.{one_step, place_found}

-- ---- the front

pub empty_has_none : (octets : List ℕ) → length octets ≡ 0 → NoFront octets
empty_has_none [] h = nothing_in_front
empty_has_none (x ∷ xs) h = absurd (omega arith)

first_is : (octets : List ℕ) (t : ℕ) (c after : List ℕ) → octets ≡ tlv t c ++ after → get_or octets 0 0 ≡ t
unfolding tlv
first_is octets t c after e = ap (λ (l : List ℕ). get_or l 0 0) e

none_of : (octets : List ℕ) → length octets < 2 ^ 64 → NoPrefix (Elements (get_or octets 0 0)) octets → NoFront octets
none_of octets lt none element after e =
    let t = first_is octets element.tag element.content after e in
    none (tlv element.tag element.content) after
    (element.content, omega (arith, ap length e, length-append (octets_of element) after), ap (λ (n : ℕ). tlv n element.content) (sym t)) e

pub front_rejected : (octets : List ℕ) (e : Asn1DerError) → length octets < 2 ^ 64 → (e ≡ errors.OutOfMemory → ⊥) → RejectsPrefix (Elements (get_or octets 0 0)) octets e → NoFront octets
front_rejected octets errors.OutOfMemory lt heapless r = absurd (heapless refl)
front_rejected octets errors.TruncatedData lt heapless r = none_of octets lt r
front_rejected octets errors.InvalidData lt heapless r = none_of octets lt r.0
front_rejected octets errors.UnsupportedValue lt heapless r = none_of octets lt r.0
front_rejected octets (errors.Io io) lt heapless r = absurd r

pub record Passes (t : ℕ) (c : List ℕ) (passed size : ℕ) (octets : List ℕ) : Type 0 where
  pub some : 0 < size
  pub content : length c ≤ size
  pub inside : passed + size ≤ length octets

pub passes : (t : ℕ) (c : List ℕ) (passed size : ℕ) (octets : List ℕ) → passed ≤ length octets → TakesPrefix (tlv t c) size (drop passed octets) → Passes t c passed size octets
passes t c passed size octets le f = record {
  some = omega (arith, f.count, tlv_some t c);
  content = omega (arith, f.count, tlv_length t c);
  inside = omega (arith, f.count, ap length f.prefix, length-append (tlv t c) (drop size (drop passed octets)), length-drop passed octets);
}

-- ---- the first element with a tag

pub record FieldSoFar (tag : ℕ) (octets : List ℕ) (passed : ℕ) : Type 0 where
  pub within : passed ≤ length octets
  pub none : NoField tag (drop passed octets) → NoField tag octets
  pub some : (start : ℕ) (content : List ℕ) → IsField tag (drop passed octets) start content → IsField tag octets (passed + start) content

pub field_begun : (tag : ℕ) (octets : List ℕ) → FieldSoFar tag octets 0
field_begun tag octets = record {
  within = omega arith;
  none = λ h. h;
  some = λ start content f. let e : start ≡ 0 + start = omega arith in subst (λ (n : ℕ). IsField tag octets n content) e f;
}

pub field_passed : (tag t : ℕ) (c : List ℕ) (passed size : ℕ) (octets : List ℕ) → (t ≡ tag → ⊥) → TakesPrefix (tlv t c) size (drop passed octets) → FieldSoFar tag octets passed → FieldSoFar tag octets (passed + size)
field_passed tag t c passed size octets other f so =
    let element : Element = record { tag = t; content = c } in
    let rest : drop size (drop passed octets) ≡ drop (passed + size) octets = drop-drop size passed octets in
    let e : drop passed octets ≡ octets_of element ++ drop (passed + size) octets = f.prefix ∙ ap (λ (l : List ℕ). tlv t c ++ l) rest in
    record {
      within = (passes t c passed size octets so.within f).inside;
      none = λ none. so.none (no_field_after tag element (drop (passed + size) octets) (drop passed octets) other e none);
      some = λ start content g.
          let sum : passed + (length (octets_of element) + start) ≡ passed + size + start = omega (arith, f.count) in
          subst (λ (n : ℕ). IsField tag octets n content) sum (so.some _ content (field_after tag element (drop (passed + size) octets) (drop passed octets) start content other e g));
    }

pub field_found : (tag : ℕ) (c : List ℕ) (passed size : ℕ) (octets : List ℕ) → TakesPrefix (tlv tag c) size (drop passed octets) → FieldSoFar tag octets passed
    → IsAt (IsField tag octets) octets (record { offset = passed + (size - length c); size = length c })
field_found tag c passed size octets f so =
    let here = field_here tag c (drop size (drop passed octets)) (drop passed octets) (size - length c) f.prefix (omega (arith, f.count, tlv_length tag c)) in
    let found = so.some (size - length c) c here in
    let s = field_stands tag octets (passed + (size - length c)) c found in
    record { leads = subst (λ (l : List ℕ). IsField tag octets (passed + (size - length c)) l) (sym (stands_at octets _ c s)) found; inside = stands_inside octets _ c s }

pub field_stopped : (tag passed : ℕ) (octets : List ℕ) → NoFront (drop passed octets) → FieldSoFar tag octets passed → NoField tag octets
field_stopped tag passed octets none so = so.none (no_field_there tag (drop passed octets) none)

pub ended : (passed : ℕ) (octets : List ℕ) → length octets ≤ passed → NoFront (drop passed octets)
ended passed octets le = empty_has_none (drop passed octets) (omega (arith, length-drop passed octets))

-- ---- the element before which so many others stand

pub record ItemSoFar (index left : ℕ) (octets : List ℕ) (passed : ℕ) : Type 0 where
  pub within : passed ≤ length octets
  pub none : NoItem left (drop passed octets) → NoItem index octets
  pub some : (start : ℕ) (item : List ℕ) → IsItem left (drop passed octets) start item → IsItem index octets (passed + start) item

pub item_begun : (index : ℕ) (octets : List ℕ) → ItemSoFar index index octets 0
item_begun index octets = record {
  within = omega arith;
  none = λ h. h;
  some = λ start item f. let e : start ≡ 0 + start = omega arith in subst (λ (n : ℕ). IsItem index octets n item) e f;
}

pub item_passed : (index left t : ℕ) (c : List ℕ) (passed size : ℕ) (octets : List ℕ) → TakesPrefix (tlv t c) size (drop passed octets) → ItemSoFar index (suc left) octets passed → ItemSoFar index left octets (passed + size)
item_passed index left t c passed size octets f so =
    let element : Element = record { tag = t; content = c } in
    let rest : drop size (drop passed octets) ≡ drop (passed + size) octets = drop-drop size passed octets in
    let e : drop passed octets ≡ octets_of element ++ drop (passed + size) octets = f.prefix ∙ ap (λ (l : List ℕ). tlv t c ++ l) rest in
    record {
      within = (passes t c passed size octets so.within f).inside;
      none = λ none. so.none (no_item_after left element (drop (passed + size) octets) (drop passed octets) e none);
      some = λ start item g.
          let sum : passed + (length (octets_of element) + start) ≡ passed + size + start = omega (arith, f.count) in
          subst (λ (n : ℕ). IsItem index octets n item) sum (so.some _ item (item_after left element (drop (passed + size) octets) (drop passed octets) start item e g));
    }

pub item_found : (index t : ℕ) (c : List ℕ) (passed size : ℕ) (octets : List ℕ) → TakesPrefix (tlv t c) size (drop passed octets) → ItemSoFar index 0 octets passed
    → IsAt (IsItem index octets) octets (record { offset = passed; size = size })
item_found index t c passed size octets f so =
    let element : Element = record { tag = t; content = c } in
    let sum : passed + 0 ≡ passed = omega arith in
    let found = subst (λ (n : ℕ). IsItem index octets n (octets_of element)) sum (so.some 0 (octets_of element) (item_here element (drop size (drop passed octets)) (drop passed octets) f.prefix)) in
    let s = item_stands index octets passed (octets_of element) found in
    let is : octets_of element ≡ take size (drop passed octets) = sym (stands_at octets passed (octets_of element) s) ∙ ap (λ (n : ℕ). take n (drop passed octets)) (sym f.count) in
    record { leads = subst (λ (l : List ℕ). IsItem index octets passed l) is found; inside = omega (arith, f.count, stands_inside octets passed (octets_of element) s) }

pub item_stopped : (index left passed : ℕ) (octets : List ℕ) → NoFront (drop passed octets) → ItemSoFar index left octets passed → NoItem index octets
item_stopped index left passed octets none so = so.none (no_item_there left (drop passed octets) none)

-- ---- paths

-- what is found within what a step leads to
pub within_step : (step : Step) (path : List Step) (octets : List ℕ) (outer inner : Place) → IsAt (IsStep step octets) octets outer → IsPlace path (octets_at octets outer) inner
    → IsPlace (step ∷ path) octets (record { offset = outer.offset + inner.offset; size = inner.size })
within_step step path octets outer inner f g =
    let end = octets_at (octets_at octets outer) inner in
    let both : Leads (step ∷ path) octets (outer.offset + inner.offset) end = (outer.offset, octets_at octets outer, inner.offset, f.leads, g.leads, refl) in
    let size : length end ≡ inner.size = rw (length-take inner.size (drop inner.offset (octets_at octets outer))) (omega (arith, g.inside, length-drop inner.offset (octets_at octets outer))) in
    subst (λ (n : ℕ). IsPlace (step ∷ path) octets (record { offset = outer.offset + inner.offset; size = n })) size (place_found (step ∷ path) octets (outer.offset + inner.offset) end both)

pub nowhere_within : (step : Step) (path : List Step) (octets : List ℕ) (outer : Place) → IsAt (IsStep step octets) octets outer → LeadsNowhere path (octets_at octets outer) → LeadsNowhere (step ∷ path) octets
nowhere_within step path octets outer f none start end g =
    let same = one_step step octets g.0 outer.offset g.1 (octets_at octets outer) g.3 f.leads in
    none g.2 end (subst (λ (l : List ℕ). Leads path l g.2 end) same.1 g.4)
