-- The page of octets of any kind as records, as C is handed them.
use Rattle.std.specs.Prelude.{◌≡◌, ◌⊎◌, ℕ, ℤ, pos, ◌+◌, ◌≤◌, Bool, true, false, List, [], ◌∷◌, ◌++◌, Option, Some, None, Result, Vec, length, drop}
use Rattle.std.specs.List.{flat_map}
use Rattle.std.specs.declared.alloc.Global.{Global}
use Rattle.krb_c_calls.specs.Items.{registry_number, role_number}
use Rattle.krb_c_pages.specs.Pages.{IsPage, RefusesPage}
use Rattle.krb_c_pages.specs.declared.listed.record.ListedCounts.{ListedCounts}
use Rattle.krb_c_pages.specs.declared.listed.record.PageItemRecord.{PageItemRecord}
use Rattle.krb_decrypt.specs.Keys.{NamedKey}
use Rattle.krb_message_fields.specs.declared.places.place.Place.{Place}
use Rattle.krb_show.specs.Tokens.{Token}
use Rattle.krb_show.specs.declared.token.Form.{Form}
use Rattle.krb_show.specs.declared.token.Form.TheVariants as forms
use Rattle.krb_show_any.specs.declared.error.PageError.{PageError}
use Rattle.krb_show_any.specs.declared.kind.Kind.{Kind}

-- ---- a record

abbrev pub form_number : Form → ℕ
form_number forms.Struct = 1
form_number forms.StructEnd = 2
form_number forms.List = 3
form_number forms.ListEnd = 4
form_number forms.Number = 5
form_number forms.Flags = 6
form_number forms.Word = 7
form_number forms.Identifier = 8
form_number forms.Text = 9
form_number forms.Octets = 10
form_number forms.Secret = 11
form_number forms.Cipher = 12

-- 1 where something is told, and where something is so; else 0
abbrev pub told : {A : Type 0} → Option A → ℕ
told None = 0
told (Some a) = 1

abbrev pub flag : Bool → ℕ
flag true = 1
flag false = 0

-- where octets stand, and how many; 0 where nothing is told of it
abbrev pub offset_of : Option Place → ℕ
offset_of None = 0
offset_of (Some place) = place.offset

abbrev pub size_of : Option Place → ℕ
size_of None = 0
size_of (Some place) = place.size

abbrev pub number_of : Option ℤ → ℤ
number_of None = pos 0
number_of (Some number) = number

-- the octets of a token: its name, its value, and the names of its number or its flags
abbrev pub octets_of : Token → List ℕ
octets_of t = t.label.text ++ t.octets ++ t.note

-- the record of a token whose octets stand behind so many others
abbrev pub record_at : ℕ → Token → PageItemRecord
record_at n t = record {
  offset = offset_of t.place;
  size = size_of t.place;
  name_offset = n;
  name_size = length t.label.text;
  value_offset = n + length t.label.text;
  value_size = length t.octets;
  note_offset = n + length t.label.text + length t.octets;
  note_size = length t.note;
  number = number_of t.number;
  form = form_number t.form;
  is_item = flag t.label.is_item;
  has_place = told t.place;
  has_number = told t.number;
  registry = registry_number t.label.kind;
  role = role_number t.label.role;
}

-- ---- what is handed out

-- records, and the octets that they tell of
pub record Listing : Type 0 where
  pub items : List PageItemRecord
  pub octets : List ℕ

-- the records of the tokens of a page whose octets stand behind so many others
abbrev pub records_behind : ℕ → List Token → List PageItemRecord
records_behind n [] = []
records_behind n (t ∷ ts) = record_at n t ∷ records_behind (n + length (octets_of t)) ts

-- a record of each token of a page, and the octets of all
abbrev pub listing_of : List Token → Listing
listing_of page = record { items = records_behind 0 page; octets = flat_map octets_of page }

abbrev pub room : List PageItemRecord → List ℕ → Listing
room items octets = record { items = items; octets = octets }

-- there is room in each
pub record Fits (l : Listing) (a : Listing) : Type 0 where
  pub items : length l.items ≤ length a.items
  pub octets : length l.octets ≤ length a.octets

-- all is at the front of each, and what is behind is as it was
abbrev pub filled : Listing → Listing → Listing
filled l a = record {
  items = l.items ++ drop (length l.items) a.items;
  octets = l.octets ++ drop (length l.octets) a.octets;
}

abbrev pub counts_of : Listing → ListedCounts
counts_of l = record { items = length l.items; octets = length l.octets }

-- They are counted and, where they fit, put (0); else all are as they were (1).
abbrev pub ArePut : Listing → Listing → Listing → ListedCounts → ℕ → Type 0
ArePut l before after counts status =
    (counts ≡ counts_of l)
    × (((status ≡ 0) × Fits l before × (after ≡ filled l before)) ⊎ ((status ≡ 1) × (Fits l before → ⊥) × (after ≡ before)))

-- what octets of a kind are told as: the page that they have, or the error
module _ (tells : Kind → List ℕ → Result (Vec Token Global) PageError → Type 0) where
  -- what is handed out of octets: the page that is written with places, as records
  abbrev pub IsListed : (ℕ → List NamedKey → List Token → List Token → Type 0) → Bool → List ℕ → List ℕ → List ℕ → Listing → Type 0
  IsListed opens shows_keys name octets keytab listing =
      (made : List Token) × IsPage tells opens true shows_keys name octets keytab made × (listing ≡ listing_of made)

  abbrev pub IsListedAnswer : (ℕ → List NamedKey → List Token → List Token → Type 0) → Bool → List ℕ → List ℕ → List ℕ → Listing → Listing → ListedCounts → ℕ
      → Type 0
  IsListedAnswer opens shows_keys name octets keytab before after counts status =
      ((listing : Listing) × IsListed opens shows_keys name octets keytab listing × ArePut listing before after counts status)
      ⊎ (RefusesPage tells name octets keytab status × (counts ≡ record { items = 0; octets = 0 }) × (after ≡ before))
