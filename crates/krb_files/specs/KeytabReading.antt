-- What is read of a keytab, from left to right: its entries, or the first error.
use Rattle.std.specs.Prelude.{◌==◌, ℕ, ◌-◌, ◌^◌, Bool, true, false, List, length, take, drop, Option, Some, None, Result, Ok, Err, nat_lt, if◌then◌else◌}
use Rattle.byteorder.specs.Endian.{big_number}
use Rattle.krb_files.specs.declared.fields.error.FieldError.{FieldError}
use Rattle.krb_files.specs.FieldReading.{◌>>=◌, Principal, number_at, counted_at, principal_at, followed_at, seen_at, all_at, shown_all}
use Rattle.krb_files.specs.Entry.{Entry}
use Rattle.krb_files.specs.Keytab.{Fields, Record, live, hole, entry_of, entries_of, kvno_of as version_of}
use Rattle.krb_files.specs.declared.keytab.error.KeytabError.{KeytabError}
use Rattle.krb_files.specs.declared.keytab.error.KeytabError.TheVariants.{InvalidVersion, Truncated, InvalidRecord}

abbrev pub kvno_of : ℕ → List ℕ → ℕ
kvno_of = version_of

-- the fields of an entry as pairs, and back
abbrev pub fields_from : Principal × (ℕ × (ℕ × (ℕ × (ℕ × List ℕ)))) → Fields
fields_from p = record { principal = p.0; name_type = p.1.0; timestamp = p.1.1.0; short_kvno = p.1.1.1.0; etype = p.1.1.1.1.0; key = p.1.1.1.1.1 }

-- principal, type of its name, timestamp, version of 8 bits, encryption type, key
abbrev pub fields_at : List ℕ → Result (Fields × List ℕ) FieldError
fields_at = seen_at fields_from (followed_at (principal_at 2) (followed_at (number_at 4) (followed_at (number_at 4) (followed_at (number_at 1) (followed_at (number_at 2) (counted_at 2))))))

-- the entry in a record
unfoldable pub entry_in : List ℕ → Result Entry FieldError
entry_in b = fields_at b >>= λ f. Ok (entry_of f.0 f.1)

-- an error in a record
abbrev pub in_record : {A : Type 0} → Result A FieldError → Result A KeytabError
in_record (Ok x) = Ok x
in_record (Err e) = Err (InvalidRecord e)

-- an error in a number before a record
abbrev pub before_record : {A : Type 0} → Result A FieldError → Result A KeytabError
before_record (Ok x) = Ok x
before_record (Err e) = Err Truncated

-- so many octets, and those after them
abbrev pub octets_at : ℕ → List ℕ → Result (List ℕ × List ℕ) KeytabError
octets_at n b = if nat_lt (length b) n then Err Truncated else Ok (take n b, drop n b)

-- a record of the entry in these octets, and the octets after it
abbrev pub live_at : List ℕ → List ℕ → Result (Record × List ℕ) KeytabError
live_at body after = in_record (fields_at body) >>= λ f. Ok (live f.0 f.1, after)

-- a hole of so many octets
abbrev pub hole_at : ℕ → List ℕ → Result (Record × List ℕ) KeytabError
hole_at n b = octets_at n b >>= λ x. Ok (hole x.0, x.1)

-- a record that is an entry, or a hole
abbrev pub body_at : ℕ → List ℕ → Result (Record × List ℕ) KeytabError
body_at n b = if nat_lt n (2 ^ 31) then (octets_at n b >>= λ x. live_at x.0 x.1) else hole_at (2 ^ 32 - n) b

-- a record: its length, and its octets
unfoldable pub record_at : List ℕ → Result (Record × List ℕ) KeytabError
record_at b = before_record (number_at 4 b) >>= λ n. body_at n.0 n.1

-- the entry of a record, and none of a hole
abbrev pub live_entry : Record → Option Entry
live_entry (live f rest) = Some (entry_of f rest)
live_entry (hole octets) = None

-- no record is to come
abbrev pub is_end : List ℕ → Bool
is_end b = if length b == 0 then true else (if nat_lt (length b) 4 then false else big_number 4 b == 0)

-- all records up to the end, or the first error
abbrev pub records_of : List ℕ → Result (List Record) KeytabError
records_of b = all_at is_end record_at (length b) b

-- the records that are there, up to the first error
abbrev pub shown_records : List ℕ → List Record
shown_records b = shown_all is_end record_at (length b) b

-- the entries that are there, up to the first error
unfoldable pub shown_entries : List ℕ → List Entry
shown_entries b = entries_of (shown_records b)

-- a version, and then records
unfoldable pub keytab_of : List ℕ → Result (List Entry) KeytabError
keytab_of b = before_record (number_at 2 b) >>= λ v.
    if v.0 == 0x0502 then (records_of v.1 >>= λ rs. Ok (entries_of rs)) else Err (InvalidVersion v.0)
