-- The paths lead to what stands in a SEQUENCE and in primitive elements.
use Rattle.std.proofs.Common.{◌≡◌, ℕ, ◌+◌, List, [], ◌∷◌, Option, Some, None, true, refl, sym, subst}
use Rattle.std.specs.Option.{option_map}
use Rattle.krb_der_core.specs.Tlv.{tlv}
use Rattle.krb_message_fields.specs.declared.places.place.Step.{Step}
use Rattle.krb_message_fields.specs.declared.places.place.Step.TheVariants.{Tag}
use Rattle.krb_message_fields.specs.Contents.{Pins, PinsIn, Slot, content_of, distinct, pins_element, pins_end, pins_tag, slots_hold, slots_octets}
use Rattle.krb_message_fields.specs.FieldPaths.{in_sequence}

-- a SEQUENCE of what may stand in it, each with a tag of its own
pub pins_in_sequence : (n : ℕ) (path : List Step) (slots : List Slot) (octets : List ℕ) (field : Option (List ℕ)) → octets ≡ slots_octets slots → distinct slots ≡ true
    → PinsIn path (content_of (160 + n) slots) field → Pins (in_sequence n path) (tlv 48 octets) field
pins_in_sequence n path slots octets field e d p =
    subst (λ (l : List ℕ). Pins (in_sequence n path) (tlv 48 l) field) (sym e)
    (pins_element 48 (Tag (160 + n) ∷ path) (slots_octets slots) field (pins_tag (160 + n) path (slots_octets slots) (content_of (160 + n) slots) field (slots_hold (160 + n) slots d) p))

-- a primitive element
pub pins_primitive : (tag : ℕ) (content : List ℕ) → Pins (Tag tag ∷ []) (tlv tag content) (Some content)
pins_primitive tag content = pins_element tag [] content (Some content) (pins_end content)

-- what may be absent is its own content
pub in_same : (path : List Step) (enc : List ℕ → List ℕ) (value : Option (List ℕ)) → ((a : List ℕ) → Pins path (enc a) (Some a)) → PinsIn path (option_map enc value) value
in_same path enc None h = refl
in_same path enc (Some a) h = h a
