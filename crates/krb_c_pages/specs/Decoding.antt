-- What is handed out of items, with what keys make of each ciphertext among them (RFC 3961, 5.3).
use Rattle.std.specs.Prelude.{◌≡◌, ℕ, ◌+◌, Bool, true, false, List, [], ◌∷◌, ◌++◌, Option, None, Some, length, map}
use Rattle.std.specs.List.{slice_get}
use Rattle.krb_c_calls.specs.Items.{record_of}
use Rattle.krb_c_calls.specs.declared.items.record.ItemRecord.{ItemRecord}
use Rattle.krb_c_pages.specs.Found.{behind, keys_in}
use Rattle.krb_c_pages.specs.declared.decoded.record.PartRecord.{PartRecord}
use Rattle.krb_decrypt.specs.Keys.{NamedKey}
use Rattle.krb_decrypt.specs.Outcomes.{IsOutcome}
use Rattle.krb_decrypt.specs.Preceding.{start}
use Rattle.krb_decrypt.specs.Told.{learned, left_out}
use Rattle.krb_decrypt.specs.Usages.{number_of}
use Rattle.krb_decrypt.specs.declared.outcome.Outcome.{Outcome}
use Rattle.krb_decrypt.specs.declared.outcome.Outcome.TheVariants as outcomes
use Rattle.krb_decrypt.specs.declared.outcome.Part.{Part}
use Rattle.krb_decrypt.specs.declared.outcome.Reason.{Reason}
use Rattle.krb_decrypt.specs.declared.outcome.Reason.TheVariants as reasons
use Rattle.krb_decrypt.specs.declared.preceding.Preceding.{Preceding}
use Rattle.krb_schema.specs.Rules.{content_of}
use Rattle.krb_schema.specs.declared.item.Form.{Form}
use Rattle.krb_schema.specs.declared.item.Form.TheVariants as form
use Rattle.krb_schema.specs.declared.item.Item.{Item}
use Rattle.krb_schema.specs.declared.shape.Leaf.TheVariants as leaves

-- the keys that are known before an item, what stands before it, and what is handed out up to it: items, parts and octets
pub record Decoding : Type 0 where
  pub keys : List NamedKey
  pub preceding : Preceding
  pub items : List ItemRecord
  pub parts : List PartRecord
  pub octets : List ℕ

-- ---- an outcome

-- the part, if there is one
abbrev pub part_of : Outcome → Option Part
part_of outcomes.NotTried = None
part_of (outcomes.InClear p) = Some p
part_of (outcomes.NotDecrypted why) = None
part_of (outcomes.Decrypted index u held) = held

abbrev pub items_in : Option Part → List Item
items_in None = []
items_in (Some p) = p.items.items

abbrev pub octets_in : Option Part → List ℕ
octets_in None = []
octets_in (Some p) = p.octets.items

-- what a key is called, and what the one is that decrypts the part
abbrev pub name_of : Option NamedKey → List ℕ
name_of None = []
name_of (Some key) = key.name

abbrev pub opener_of : List NamedKey → Outcome → List ℕ
opener_of keys outcomes.NotTried = []
opener_of keys (outcomes.InClear p) = []
opener_of keys (outcomes.NotDecrypted why) = []
opener_of keys (outcomes.Decrypted index u held) = name_of (slice_get keys index)

-- the numbers of reasons and of outcomes: 5 of a part, 6 where what is decrypted is none
abbrev pub reason_number : Reason → ℕ
reason_number reasons.TypeNotSupported = 2
reason_number reasons.NoKeyOfType = 3
reason_number reasons.NoKeyFits = 4

abbrev pub decrypted_number : Option Part → ℕ
decrypted_number None = 6
decrypted_number (Some p) = 5

abbrev pub outcome_number : Outcome → ℕ
outcome_number outcomes.NotTried = 0
outcome_number (outcomes.InClear p) = 1
outcome_number (outcomes.NotDecrypted why) = reason_number why
outcome_number (outcomes.Decrypted index u held) = decrypted_number held

abbrev pub usage_number : Outcome → ℕ
usage_number outcomes.NotTried = 0
usage_number (outcomes.InClear p) = 0
usage_number (outcomes.NotDecrypted why) = 0
usage_number (outcomes.Decrypted index u held) = number_of u

-- ---- keys that are found

-- those in a part
abbrev pub found_in : Part → List NamedKey
found_in p = keys_in p.type_name.now p.octets.items start [] p.items.items

-- they are learned, up to so many keys, and so many are left out
abbrev pub IsLearned : ℕ → Part → List NamedKey → List NamedKey → ℕ → Type 0
IsLearned most p keys next count = (count ≡ left_out most (found_in p) keys) × (next ≡ learned most (found_in p) keys)

abbrev pub learned_in : ℕ → Option Part → List NamedKey → List NamedKey
learned_in most None keys = keys
learned_in most (Some p) keys = learned most (found_in p) keys

abbrev pub left_out_in : ℕ → Option Part → List NamedKey → ℕ
left_out_in most None keys = 0
left_out_in most (Some p) keys = left_out most (found_in p) keys

-- behind an outcome: the keys in what stands in the clear are not learned
abbrev pub learned_behind : ℕ → Outcome → List NamedKey → List NamedKey
learned_behind most outcomes.NotTried keys = keys
learned_behind most (outcomes.InClear p) keys = keys
learned_behind most (outcomes.NotDecrypted why) keys = keys
learned_behind most (outcomes.Decrypted index u held) keys = learned_in most held keys

abbrev pub left_out_behind : ℕ → Outcome → List NamedKey → ℕ
left_out_behind most outcomes.NotTried keys = 0
left_out_behind most (outcomes.InClear p) keys = 0
left_out_behind most (outcomes.NotDecrypted why) keys = 0
left_out_behind most (outcomes.Decrypted index u held) keys = left_out_in most held keys

-- ---- what is handed out

-- The record of an outcome: where its ciphertext is among the items, where its own items are, and where the name of its key and its octets are.
pub record IsPartRecord (most index : ℕ) (o : Outcome) (d : Decoding) (p : PartRecord) : Type 0 where
  pub item : p.item ≡ index
  pub first : p.first ≡ length d.items
  pub count : p.count ≡ length (items_in (part_of o))
  pub offset : p.offset ≡ length d.octets + length (opener_of d.keys o)
  pub size : p.size ≡ length (octets_in (part_of o))
  pub opener_offset : p.opener_offset ≡ length d.octets
  pub opener_size : p.opener_size ≡ length (opener_of d.keys o)
  pub keys_left_out : p.keys_left_out ≡ left_out_behind most o d.keys
  pub outcome : p.outcome ≡ outcome_number o
  pub usage : p.usage ≡ usage_number o

-- its items stand behind the items, its record behind the records, its octets behind the octets and the name of its key
pub record IsTold (most index : ℕ) (o : Outcome) (d next : Decoding) : Type 0 where
  pub keys : next.keys ≡ learned_behind most o d.keys
  pub preceding : next.preceding ≡ d.preceding
  pub items : next.items ≡ d.items ++ map record_of (items_in (part_of o))
  pub part : PartRecord
  pub is_record : IsPartRecord most index o d part
  pub parts : next.parts ≡ d.parts ++ part ∷ []
  pub octets : next.octets ≡ d.octets ++ opener_of d.keys o ++ octets_in (part_of o)

-- what the keys make of this ciphertext
pub record IsToldCipher (most index : ℕ) (cipher : List ℕ) (d next : Decoding) : Type 0 where
  pub o : Outcome
  pub outcome : IsOutcome d.preceding.role d.preceding.etype cipher d.keys o
  pub told : IsTold most index o d next

abbrev pub is_cipher : Form → Bool
is_cipher (form.Leaf leaves.Cipher) = true
is_cipher other = false

-- what keys make of an item of the octets that is a ciphertext; of another item nothing
abbrev pub step_by : Bool → ℕ → List ℕ → ℕ → Item → Decoding → Decoding → Type 0
step_by false most octets index i d next = next ≡ d
step_by true most octets index i d next = IsToldCipher most index (content_of octets i) d next

abbrev pub gone_on : List ℕ → Item → Decoding → Decoding
gone_on octets i d = record d { preceding = behind octets i d.preceding }

-- the items of octets one after another, of which so many stand before these
abbrev pub decoded : ℕ → List ℕ → ℕ → List Item → Decoding → Decoding → Type 0
decoded most octets index [] d end = end ≡ d
decoded most octets index (i ∷ items) d end =
    (next : Decoding) × step_by (is_cipher i.form) most octets index i d next × decoded most octets (index + 1) items (gone_on octets i next) end

-- before the first of these items
abbrev pub begun : List NamedKey → List Item → Decoding
begun keys items = record { keys = keys; preceding = start; items = map record_of items; parts = []; octets = [] }
