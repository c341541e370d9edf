-- Where in a keytab what its page tells stands, in the order of the tokens (MIT Kerberos, "Keytab file format").
use Rattle.std.specs.Prelude.{◌≡◌, ◌==◌, ℕ, ◌+◌, ◌-◌, nat_lt, if◌then◌else◌, List, [], ◌∷◌, ◌++◌, length, Option, None, Some}
use Rattle.byteorder.specs.Endian.{big_number}
use Rattle.krb_files.specs.Entry.{Entry}
use Rattle.krb_files.specs.FieldWritten.{principal_octets}
use Rattle.krb_files.specs.Keytab.{Fields, FitsFields, KeytabIs, Record, fields_octets, hole, live, record_octets}
use Rattle.krb_message_fields.specs.declared.places.place.Place.{Place}
use Rattle.krb_show.specs.InnerPlaces.{place_at}

-- components from an offset on, one behind another, each behind its length of 16 bits
abbrev pub component_places : ℕ → List (List ℕ) → List (Option Place)
component_places at [] = []
component_places at (c ∷ cs) = place_at (at + 2) (length c) ∷ component_places (at + 2 + length c) cs

-- the version of a key: the 32 bits behind the key, where there are so many and they are not 0, and else the 8 bits before it
abbrev pub version_place : ℕ → ℕ → List ℕ → Option Place
version_place short long rest = if nat_lt (length rest) 4 then place_at short 1 else (if big_number 4 rest == 0 then place_at short 1 else place_at long 4)

-- An entry's record without its length, from an offset on, of which the principal has so many octets. Before the components: the record, the type of the
-- name, which stands behind the principal, the realm, behind the count of the components and its own length, and the list of components; behind them
-- the end of the list, the timestamp, the version, the encryption type, the key and the end of the record.
abbrev pub parts_places : ℕ → ℕ → List ℕ → List (List ℕ) → List ℕ → List ℕ → List (Option Place)
parts_places at size realm components key rest =
    (place_at at (size + 13 + length key + length rest) ∷ place_at (at + size) 4 ∷ place_at (at + 4) (length realm)
    ∷ place_at (at + 4 + length realm) (size - (4 + length realm)) ∷ [])
    ++ (component_places (at + 4 + length realm) components
    ++ (place_at (at + 4 + length realm) (size - (4 + length realm)) ∷ place_at (at + size + 4) 4
    ∷ version_place (at + size + 8) (at + size + 13 + length key) rest ∷ place_at (at + size + 9) 2 ∷ place_at (at + size + 13) (length key)
    ∷ place_at at (size + 13 + length key + length rest) ∷ []))

abbrev pub entry_places : ℕ → Fields → List ℕ → List (Option Place)
entry_places at f rest = parts_places at (length (principal_octets 2 f.principal)) f.principal.realm f.principal.components f.key rest

-- records from an offset on: an entry behind its length of 32 bits; a hole is not told
abbrev pub records_places : ℕ → List Record → List (Option Place)
records_places at [] = []
records_places at (live f rest ∷ rs) = entry_places (at + 4) f rest ++ records_places (at + length (record_octets (live f rest))) rs
records_places at (hole octets ∷ rs) = records_places (at + length (record_octets (hole octets))) rs

-- a keytab: the list of its entries has all octets behind the version of the file
abbrev pub listed_places : ℕ → List Record → List (Option Place)
listed_places size records = (place_at 2 (size - 2) ∷ []) ++ (records_places 2 records ++ place_at 2 (size - 2) ∷ [])

-- octets that are a keytab
abbrev pub keytab_places : List ℕ → List (Option Place) → Type 0
keytab_places octets places = (entries : List Entry) (keytab : KeytabIs octets entries) → places ≡ listed_places (length octets) keytab.records

-- octets that are a keytab have these places, and others none
pub record AreKeytabPlaces (octets : List ℕ) (places : List (Option Place)) : Type 0 where
  pub found : keytab_places octets places
  pub none : ((entries : List Entry) → KeytabIs octets entries → ⊥) → places ≡ []

-- what the content of a record adds: of an entry its places
abbrev pub adds_entry : ℕ → List ℕ → List (Option Place) → List (Option Place) → Type 0
adds_entry at body old new =
    (f : Fields) (rest : List ℕ) → FitsFields f → body ≡ fields_octets f ++ rest → new ≡ old ++ entry_places at f rest

abbrev pub adds_content : ℕ → Option (List ℕ) → List (Option Place) → List (Option Place) → Type 0
adds_content at None old new = new ≡ old
adds_content at (Some body) old new = adds_entry at body old new
