-- The records of a keytab, and the parts of an entry's record, as they are found in octets (MIT Kerberos, "Keytab file format").
use Rattle.std.specs.Prelude.{◌≡◌, ℕ, ◌+◌, ◌-◌, ◌^◌, ◌≤◌, nat_lt, if◌then◌else◌, List, ◌++◌, length, take, drop, Option, None, Some}
use Rattle.std.specs.List.{flat_map}
use Rattle.std.specs.Option.{option_copied}
use Rattle.krb_files.specs.FieldWritten.{counted_octets, principal_octets}
use Rattle.krb_files.specs.Keytab.{Fields, Record, fields_octets, hole, live}
use Rattle.krb_show_pages.specs.declared.files.keytab_places.EntryParts.{EntryParts}
use Rattle.krb_show_pages.specs.declared.files.keytab_places.RecordPart.{RecordPart}

-- the parts are those of these fields and of what is behind them
pub record IsPartsOf (p : EntryParts) (f : Fields) (behind : List ℕ) : Type 0 where
  pub size : p.principal_size ≡ length (principal_octets 2 f.principal)
  pub realm : p.realm.now ≡ f.principal.realm
  pub components : p.components ≡ f.principal.components
  pub key : p.key.now ≡ f.key
  pub rest : p.rest.now ≡ behind

-- they have so many octets, and the principal those of its realm and its components
pub record FitsParts (p : EntryParts) (size : ℕ) : Type 0 where
  pub all : p.principal_size + 13 + length p.key.now + length p.rest.now ≡ size
  pub principal : 4 + length p.realm.now + length (flat_map (counted_octets 2) p.components) ≡ p.principal_size

-- how many octets a record has by its length, which is negative for a hole, in two's complement
abbrev pub record_size : ℕ → ℕ
record_size length = if nat_lt length (2 ^ 31) then length else 2 ^ 32 - length

-- what is told of them: all of an entry, and nothing of a hole
abbrev pub told_of : ℕ → List ℕ → Option (List ℕ)
told_of length body = if nat_lt length (2 ^ 31) then Some body else None

-- these octets are behind a record's length, and the record is whole
pub record IsPartAt (length_is : ℕ) (octets : List ℕ) (p : RecordPart) : Type 0 where
  pub whole : record_size length_is ≤ length octets
  pub content : option_copied p.content ≡ told_of length_is (take (record_size length_is) octets)
  pub behind : p.behind.now ≡ drop (record_size length_is) octets

-- what a record holds: an entry's fields and what is behind them, or nothing that is told
abbrev pub content_of : Record → Option (List ℕ)
content_of (live f rest) = Some (fields_octets f ++ rest)
content_of (hole octets) = None

-- it is this record, and these octets are behind it
abbrev pub IsPart : RecordPart → Record → List ℕ → Type 0
IsPart p r tail = (option_copied p.content ≡ content_of r) × (p.behind.now ≡ tail)

-- how many octets a record has that holds this
abbrev pub fits_content : Option (List ℕ) → ℕ → Type 0
fits_content None size = Unit {0}
fits_content (Some body) size = 4 + length body ≡ size

-- it has so many octets with its length, and some are behind it
pub record FitsRecordPart (p : RecordPart) (size : ℕ) : Type 0 where
  pub record_octets : ℕ
  pub some : 4 ≤ record_octets
  pub all : record_octets + length p.behind.now ≡ size
  pub content : fits_content (option_copied p.content) record_octets
