-- Which content a tag has among elements that are written one after another, some of which may be absent (X.690, 8.9), and to which octets a path
-- leads that are known so.
use Rattle.std.proofs.Common.{◌≡◌, ℕ, zero, suc, ◌+◌, Bool, true, false, ◌&&◌, not, if◌then◌else◌, eqb, List, [], ◌∷◌, ◌++◌, length, Option, Some, None, refl, sym, ap, subst}
use Rattle.std.proofs.lemmas.Bool.{eqb-true, eqb-false}
use Rattle.std.proofs.lemmas.List.{append-nil}
use Rattle.std.specs.List.{flat_map, slice_get}
use Rattle.std.specs.Option.{option_map, option_and_then}
use Rattle.krb_der_core.specs.Tlv.{header, tlv}
use Rattle.krb_der_core.specs.Encoding.{optional}
use Rattle.krb_message_fields.specs.declared.places.place.Step.{Step}
use Rattle.krb_message_fields.specs.declared.places.place.Step.TheVariants.{Tag, Item}
use Rattle.krb_message_fields.specs.Rows.{Element, IsField, IsItem, NoField, NoFront, NoItem, NoneHas, octets_of, row}
use Rattle.krb_message_fields.specs.Paths.{Leads, LeadsNowhere, IsStep, NoStep}
use Rattle.krb_message_fields.specs.PathLaws.{one_step}
use Rattle.krb_message_fields.specs.RowLaws.{field_here, field_after, item_here, item_after, no_item_after, no_field_after, no_field_there, no_item_there, nothing_in_front}

-- ---- contents

-- they are elements, none of which has the tag
pub record Without (tag : ℕ) (octets : List ℕ) : Type 0 where
  pub elements : List Element
  pub others : NoneHas tag elements
  pub whole : octets ≡ row elements

-- the content of the first element with the tag, where one has it
abbrev pub Holds : ℕ → List ℕ → Option (List ℕ) → Type 0
Holds tag octets None = Without tag octets
Holds tag octets (Some content) = (start : ℕ) × IsField tag octets start content

-- what may stand in one place: an element of one tag, or nothing
pub record Slot : Type 0 where
  pub tag : ℕ
  pub content : Option (List ℕ)

abbrev pub must : ℕ → List ℕ → Slot
must tag content = record { tag = tag; content = Some content }

abbrev pub may : {A : Type 0} → ℕ → (A → List ℕ) → Option A → Slot
may tag content value = record { tag = tag; content = option_map content value }

abbrev pub slots_octets : List Slot → List ℕ
slots_octets [] = []
slots_octets (slot ∷ slots) = optional (tlv slot.tag) slot.content ++ slots_octets slots

abbrev pub content_of : ℕ → List Slot → Option (List ℕ)
content_of tag [] = None
content_of tag (slot ∷ slots) = if eqb slot.tag tag then slot.content else content_of tag slots

abbrev pub has_none : ℕ → List Slot → Bool
has_none tag [] = true
has_none tag (slot ∷ slots) = not (eqb slot.tag tag) && has_none tag slots

-- no tag is that of two
abbrev pub distinct : List Slot → Bool
distinct [] = true
distinct (slot ∷ slots) = has_none slot.tag slots && distinct slots

pub optional_map : {A : Type 0} (f : List ℕ → List ℕ) (g : A → List ℕ) (o : Option A) → optional f (option_map g o) ≡ optional (λ x. f (g x)) o
optional_map f g None = refl
optional_map f g (Some x) = refl

without_row : (tag : ℕ) (elements : List Element) (octets : List ℕ) → octets ≡ row elements → NoneHas tag elements → NoField tag octets
without_row tag [] octets e others start content f = no_field_there tag octets (subst NoFront (sym e) nothing_in_front) start content f
without_row tag (element ∷ elements) octets e others start content f =
    no_field_after tag element (row elements) octets others.0 e (without_row tag elements (row elements) refl others.1) start content f

pub without_none : (tag : ℕ) (octets : List ℕ) → Without tag octets → NoField tag octets
without_none tag octets w = without_row tag w.elements octets w.whole w.others

hold_first : (tag u : ℕ) (content : Option (List ℕ)) (rest : List ℕ) → u ≡ tag → Without tag rest → Holds tag (optional (tlv u) content ++ rest) content
hold_first tag u None rest e w = w
hold_first tag u (Some c) rest e w =
    (length (header tag (length c)), field_here tag c rest (tlv u c ++ rest) (length (header tag (length c))) (ap (λ (n : ℕ). tlv n c ++ rest) e) refl)

hold_later : (tag u : ℕ) (content : Option (List ℕ)) (rest : List ℕ) (held : Option (List ℕ)) → (u ≡ tag → ⊥) → Holds tag rest held → Holds tag (optional (tlv u) content ++ rest) held
hold_later tag u None rest held other h = h
hold_later tag u (Some c) rest None other h =
    let element : Element = record { tag = u; content = c } in
    record { elements = element ∷ h.elements; others = (other, h.others); whole = ap (λ (l : List ℕ). tlv u c ++ l) h.whole }
hold_later tag u (Some c) rest (Some d) other h =
    let element : Element = record { tag = u; content = c } in
    (length (tlv u c) + h.0, field_after tag element rest (tlv u c ++ rest) h.0 d other refl h.1)

both_true : (b c : Bool) → (b && c) ≡ true → (b ≡ true) × (c ≡ true)
both_true true c e = (refl, e)
both_true false c e = absurd (cc)

not_true : (b : Bool) → not b ≡ true → b ≡ false
not_true true e = absurd (cc)
not_true false e = refl

slots_without : (tag : ℕ) (slots : List Slot) → has_none tag slots ≡ true → Without tag (slots_octets slots)
slots_without tag [] h = record { elements = []; others = tt; whole = refl }
slots_without tag (slot ∷ slots) h =
    let k = both_true (not (eqb slot.tag tag)) (has_none tag slots) h in
    hold_later tag slot.tag slot.content (slots_octets slots) None (eqb-false slot.tag tag (not_true (eqb slot.tag tag) k.0)) (slots_without tag slots k.1)

by_tag : (tag : ℕ) (slot : Slot) (slots : List Slot) → has_none slot.tag slots ≡ true → Holds tag (slots_octets slots) (content_of tag slots)
    → (same : Bool) → eqb slot.tag tag ≡ same → Holds tag (optional (tlv slot.tag) slot.content ++ slots_octets slots) (if same then slot.content else content_of tag slots)
by_tag tag slot slots apart later true e =
    let is : slot.tag ≡ tag = eqb-true slot.tag tag e in
    hold_first tag slot.tag slot.content (slots_octets slots) is (subst (λ (n : ℕ). Without n (slots_octets slots)) is (slots_without slot.tag slots apart))
by_tag tag slot slots apart later false e = hold_later tag slot.tag slot.content (slots_octets slots) (content_of tag slots) (eqb-false slot.tag tag e) later

-- Where no tag is that of two, the content of a tag is what the slots say.
pub slots_hold : (tag : ℕ) (slots : List Slot) → distinct slots ≡ true → Holds tag (slots_octets slots) (content_of tag slots)
slots_hold tag [] h = record { elements = []; others = tt; whole = refl }
slots_hold tag (slot ∷ slots) h =
    let k = both_true (has_none slot.tag slots) (distinct slots) h in
    by_tag tag slot slots k.0 (slots_hold tag slots k.1) (eqb slot.tag tag) refl

-- ---- paths

-- the octets to which a path leads, where it leads anywhere
abbrev pub Pins : List Step → List ℕ → Option (List ℕ) → Type 0
Pins path octets None = LeadsNowhere path octets
Pins path octets (Some end) = (start : ℕ) × Leads path octets start end

-- the same, within a content that may be absent
abbrev pub PinsIn : List Step → Option (List ℕ) → Option (List ℕ) → Type 0
PinsIn path None field = field ≡ None
PinsIn path (Some octets) field = Pins path octets field

pub pins_end : (octets : List ℕ) → Pins [] octets (Some octets)
pins_end octets = (0, (refl, refl))

nowhere_first : (step : Step) (path : List Step) (octets : List ℕ) → NoStep step octets → LeadsNowhere (step ∷ path) octets
nowhere_first step path octets none start end f = none f.0 f.1 f.3

nowhere_later : (step : Step) (path : List Step) (octets within : List ℕ) (outer : ℕ) → IsStep step octets outer within → LeadsNowhere path within → LeadsNowhere (step ∷ path) octets
nowhere_later step path octets within outer f none start end h =
    let same = one_step step octets h.0 outer h.1 within h.3 f in
    none h.2 end (subst (λ (l : List ℕ). Leads path l h.2 end) same.1 h.4)

pub pins_step : (step : Step) (path : List Step) (octets within : List ℕ) (outer : ℕ) (field : Option (List ℕ)) → IsStep step octets outer within → Pins path within field → Pins (step ∷ path) octets field
pins_step step path octets within outer None f g = nowhere_later step path octets within outer f g
pins_step step path octets within outer (Some end) f g = (outer + g.0, (outer, within, g.0, f, g.1, refl))

pub pins_tag : (tag : ℕ) (path : List Step) (octets : List ℕ) (held field : Option (List ℕ)) → Holds tag octets held → PinsIn path held field → Pins (Tag tag ∷ path) octets field
pins_tag tag path octets None field h p = subst (Pins (Tag tag ∷ path) octets) (sym p) (nowhere_first (Tag tag) path octets (without_none tag octets h))
pins_tag tag path octets (Some within) field h p = pins_step (Tag tag) path octets within h.0 field h.1 p

-- one element
pub pins_element : (tag : ℕ) (path : List Step) (content : List ℕ) (field : Option (List ℕ)) → Pins path content field → Pins (Tag tag ∷ path) (tlv tag content) field
pins_element tag path content field p =
    pins_step (Tag tag) path (tlv tag content) content (length (header tag (length content))) field
    (field_here tag content [] (tlv tag content) (length (header tag (length content))) (sym (append-nil (tlv tag content))) refl) p

abbrev pub HoldsItem : ℕ → List ℕ → Option (List ℕ) → Type 0
HoldsItem index octets None = NoItem index octets
HoldsItem index octets (Some item) = (start : ℕ) × IsItem index octets start item

module _ {A : Type 0} (enc : A → List ℕ) (element : A → Element) (is_element : (a : A) → enc a ≡ octets_of (element a)) where
  next_item : (a : A) (rest : List ℕ) (index : ℕ) (item : Option (List ℕ)) → HoldsItem index rest item → HoldsItem (suc index) (enc a ++ rest) item
  next_item a rest index None h = no_item_after index (element a) rest (enc a ++ rest) (ap (λ (l : List ℕ). l ++ rest) (is_element a)) h
  next_item a rest index (Some item) h =
      (length (octets_of (element a)) + h.0, item_after index (element a) rest (enc a ++ rest) h.0 item (ap (λ (l : List ℕ). l ++ rest) (is_element a)) h.1)

  items_hold : (items : List A) (index : ℕ) → HoldsItem index (flat_map enc items) (option_map enc (slice_get items index))
  items_hold [] index = no_item_there index [] nothing_in_front
  items_hold (a ∷ items) zero = (
    0,
    subst (IsItem 0 (enc a ++ flat_map enc items) 0) (sym (is_element a))
        (item_here (element a) (flat_map enc items) (enc a ++ flat_map enc items) (ap (λ (l : List ℕ). l ++ flat_map enc items) (is_element a))),
  )
  items_hold (a ∷ items) (suc index) = next_item a (flat_map enc items) index (option_map enc (slice_get items index)) (items_hold items index)

  pins_found : (index : ℕ) (path : List Step) (octets : List ℕ) (item field : Option (List ℕ)) → HoldsItem index octets item → PinsIn path item field → Pins (Item index ∷ path) octets field
  pins_found index path octets None field h p = subst (Pins (Item index ∷ path) octets) (sym p) (nowhere_first (Item index) path octets h)
  pins_found index path octets (Some item) field h p = pins_step (Item index) path octets item h.0 field h.1 p

  -- the items of a SEQUENCE OF (X.690, 8.10)
  pub pins_item : (index : ℕ) (path : List Step) (items : List A) (field : Option (List ℕ)) → PinsIn path (option_map enc (slice_get items index)) field → Pins (Item index ∷ path) (flat_map enc items) field
  pins_item index path items field p = pins_found index path (flat_map enc items) (option_map enc (slice_get items index)) field (items_hold items index) p

-- what each value has, the one that may be absent has
pub in_some : {A : Type 0} (path : List Step) (enc : A → List ℕ) (field : A → List ℕ) (value : Option A) → ((a : A) → Pins path (enc a) (Some (field a)))
    → PinsIn path (option_map enc value) (option_map field value)
in_some path enc field None h = refl
in_some path enc field (Some a) h = h a

pub in_each : {A : Type 0} (path : List Step) (enc : A → List ℕ) (field : A → Option (List ℕ)) (value : Option A) → ((a : A) → Pins path (enc a) (field a))
    → PinsIn path (option_map enc value) (option_and_then field value)
in_each path enc field None h = refl
in_each path enc field (Some a) h = h a
