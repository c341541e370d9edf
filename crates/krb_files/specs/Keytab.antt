-- The octets of a keytab of version 2 (MIT Kerberos, "Keytab file format"). Numbers have the most significant octet first.
use Rattle.std.specs.Prelude.{◌≡◌, ◌==◌, ℕ, ◌-◌, ◌^◌, ◌<◌, ◌≤◌, ◌⊎◌, List, [], ◌∷◌, ◌++◌, length, nat_lt, if◌then◌else◌}
use Rattle.std.specs.List.{flat_map, AllByRecursion}
use Rattle.byteorder.specs.Endian.{big_number, big_bytes}
use Rattle.krb_files.specs.FieldReading.{Principal}
use Rattle.krb_files.specs.FieldWritten.{counted_octets, principal_octets, FitsNumber, FitsCounted, FitsPrincipal}
use Rattle.krb_files.specs.Entry.{Entry}

-- the fields of an entry, the version of its key in 8 bits
pub record Fields : Type 0 where
  pub principal : Principal
  pub name_type : ℕ
  pub timestamp : ℕ
  pub short_kvno : ℕ
  pub etype : ℕ
  pub key : List ℕ

-- a record: the fields of an entry and what follows them in the record, or a hole
pub data Record : Type 0 where
  live : Fields → List ℕ → Record
  hole : List ℕ → Record

-- principal, type of its name, timestamp, version of 8 bits, encryption type, key
abbrev pub fields_octets : Fields → List ℕ
fields_octets f =
    principal_octets 2 f.principal ++ (big_bytes 4 f.name_type ++ (big_bytes 4 f.timestamp ++ (big_bytes 1 f.short_kvno ++ (big_bytes 2 f.etype ++ counted_octets 2 f.key))))

-- a length and so many octets; a hole's length is negative, in two's complement
abbrev pub record_octets : Record → List ℕ
record_octets (live f rest) = counted_octets 4 (fields_octets f ++ rest)
record_octets (hole octets) = big_bytes 4 (2 ^ 32 - length octets) ++ octets

-- each field has a place
abbrev pub FitsFields : Fields → Type 0
FitsFields f =
    FitsPrincipal 2 f.principal × (FitsNumber 4 f.name_type × (FitsNumber 4 f.timestamp × (FitsNumber 1 f.short_kvno × (FitsNumber 2 f.etype × FitsCounted 2 f.key))))

-- the length is a positive number of 32 bits with a sign, or a negative one
abbrev pub FitsRecord : Record → Type 0
FitsRecord (live f rest) = FitsFields f × (length (fields_octets f ++ rest) < 2 ^ 31)
FitsRecord (hole octets) = (0 < length octets) × (length octets ≤ 2 ^ 31)

-- "The 32-bit key version overrides the 8-bit key version": where at least 4 octets remain in the record, and are not 0
abbrev pub kvno_of : ℕ → List ℕ → ℕ
kvno_of short rest = if nat_lt (length rest) 4 then short else (if big_number 4 rest == 0 then short else big_number 4 rest)

-- the entry of these fields and of what follows them: of this only the version counts, and what is behind it is not looked at
abbrev pub entry_of : Fields → List ℕ → Entry
entry_of f rest = record {
  principal = f.principal;
  name_type = f.name_type;
  timestamp = f.timestamp;
  kvno = kvno_of f.short_kvno rest;
  etype = f.etype;
  key = f.key;
}

-- the entries of the records: holes are left out
abbrev pub entries_of : List Record → List Entry
entries_of [] = []
entries_of (live f rest ∷ rs) = entry_of f rest ∷ entries_of rs
entries_of (hole octets ∷ rs) = entries_of rs

-- no record is to come: the end of the octets, or a length of 0, behind which nothing is looked at
abbrev pub IsEnd : List ℕ → Type 0
IsEnd b = (b ≡ []) ⊎ ((4 ≤ length b) × (big_number 4 b ≡ 0))

-- the octets are the keytab of these entries: 05 02, records, and then the end
pub record KeytabIs (b : List ℕ) (entries : List Entry) : Type 0 where
  pub records : List Record
  pub end : List ℕ
  pub octets : b ≡ 5 ∷ 2 ∷ (flat_map record_octets records ++ end)
  pub ends : IsEnd end
  pub fits : AllByRecursion FitsRecord records
  pub shown : entries_of records ≡ entries
