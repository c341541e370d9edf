-- Octets of a type as items, with what the keys of a keytab open in them, as C is handed them.
use Rattle.std.specs.Prelude.{◌≡◌, ◌⊎◌, ℕ, ◌+◌, ◌≤◌, List, ◌++◌, length, drop}
use Rattle.krb_c_calls.specs.Items.{AreItems, RefusesItems}
use Rattle.krb_c_calls.specs.Statuses.{refusal_status}
use Rattle.krb_c_calls.specs.declared.call_error.CallError.{CallError}
use Rattle.krb_c_calls.specs.declared.items.record.ItemRecord.{ItemRecord}
use Rattle.krb_c_pages.specs.Decoding.{Decoding, begun, decoded}
use Rattle.krb_c_pages.specs.Pages.{AreKeysOf, HasNoKeys}
use Rattle.krb_c_pages.specs.declared.decoded.record.DecodedCounts.{DecodedCounts}
use Rattle.krb_c_pages.specs.declared.decoded.record.PartRecord.{PartRecord}
use Rattle.krb_decrypt.specs.Keys.{NamedKey}
use Rattle.krb_schema.specs.declared.item.Item.{Item}

-- The items of the octets, which are an element of the type of this name, and what the keys of the keytab make of the ciphertexts among them. A thousand
-- keys that are found are tried beside them.
pub record IsDecoded (type_name octets keytab : List ℕ) (d : Decoding) : Type 0 where
  pub items : List Item
  pub are_items : AreItems type_name octets items
  pub keys : List NamedKey
  pub are_keys : AreKeysOf keytab keys
  pub is : decoded (length keys + 1000) octets 0 items (begun keys items) d

-- Why there are none, and where: the octets are refused; they are not, and the keytab is none; an allocation failed (2).
abbrev pub RefusesDecoding : List ℕ → List ℕ → List ℕ → ℕ → ℕ → Type 0
RefusesDecoding type_name octets keytab status offset =
    RefusesItems type_name octets status offset
    ⊎ (((items : List Item) × AreItems type_name octets items) × (e : CallError) × HasNoKeys keytab e × (status ≡ refusal_status e) × (offset ≡ 0))
    ⊎ ((status ≡ 2) × (offset ≡ 0))

-- ---- what is handed out

-- the caller's arrays
pub record Arrays : Type 0 where
  pub items : List ItemRecord
  pub parts : List PartRecord
  pub octets : List ℕ

abbrev pub arrays : List ItemRecord → List PartRecord → List ℕ → Arrays
arrays items parts octets = record { items = items; parts = parts; octets = octets }

-- there is room in each
pub record Fits (d : Decoding) (a : Arrays) : Type 0 where
  pub items : length d.items ≤ length a.items
  pub parts : length d.parts ≤ length a.parts
  pub octets : length d.octets ≤ length a.octets

-- all is at the front of each, and what is behind is as it was
abbrev pub filled : Decoding → Arrays → Arrays
filled d a = record {
  items = d.items ++ drop (length d.items) a.items;
  parts = d.parts ++ drop (length d.parts) a.parts;
  octets = d.octets ++ drop (length d.octets) a.octets;
}

abbrev pub counts_of : Decoding → DecodedCounts
counts_of d = record { items = length d.items; parts = length d.parts; octets = length d.octets; offset = 0 }

abbrev pub no_counts : ℕ → DecodedCounts
no_counts offset = record { items = 0; parts = 0; octets = 0; offset = offset }

-- They are counted and, where they fit, put (0); else all are as they were (1).
abbrev pub ArePut : Decoding → Arrays → Arrays → DecodedCounts → ℕ → Type 0
ArePut d before after told status =
    (told ≡ counts_of d)
    × (((status ≡ 0) × Fits d before × (after ≡ filled d before)) ⊎ ((status ≡ 1) × (Fits d before → ⊥) × (after ≡ before)))

abbrev pub IsDecodedAnswer : List ℕ → List ℕ → List ℕ → Arrays → Arrays → DecodedCounts → ℕ → Type 0
IsDecodedAnswer type_name octets keytab before after told status =
    ((d : Decoding) × IsDecoded type_name octets keytab d × ArePut d before after told status)
    ⊎ ((offset : ℕ) × RefusesDecoding type_name octets keytab status offset × (told ≡ no_counts offset) × (after ≡ before))
