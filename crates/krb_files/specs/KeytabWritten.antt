-- The octets that a keytab is written as, in the form that MIT Kerberos writes: the version of a key in 8 bits, its low octet, and
-- in 32 bits.
use Rattle.std.specs.Prelude.{◌≡◌, ℕ, ◌%◌, ◌^◌, ◌<◌, List, ◌∷◌}
use Rattle.std.specs.List.{flat_map}
use Rattle.byteorder.specs.Endian.{big_bytes}
use Rattle.krb_files.specs.Principals.{principal_of}
use Rattle.krb_files.specs.Entry.{Entry}
use Rattle.krb_files.specs.Keytab.{Fields, Record, live, hole, record_octets, FitsRecord}
use Rattle.krb_files.specs.declared.keytab.writing.NewEntry.{NewEntry}

-- an entry that is to be written
abbrev pub entry_from : NewEntry → Entry
entry_from e = record {
  principal = principal_of e.principal;
  name_type = e.name_type;
  timestamp = e.timestamp;
  kvno = e.kvno;
  etype = e.etype;
  key = e.key.now;
}

-- its fields, with the low octet of the version
abbrev pub written_fields : Entry → Fields
written_fields e = record {
  principal = e.principal;
  name_type = e.name_type;
  timestamp = e.timestamp;
  short_kvno = e.kvno % 256;
  etype = e.etype;
  key = e.key;
}

-- its record: the fields, and the version of 32 bits
abbrev pub written_record : Entry → Record
written_record e = live (written_fields e) (big_bytes 4 e.kvno)

abbrev pub entry_octets : Entry → List ℕ
entry_octets e = record_octets (written_record e)

-- each length has a place
abbrev pub FitsEntry : Entry → Type 0
FitsEntry e = FitsRecord (written_record e) × (e.kvno < 2 ^ 32)

-- 05 02 and the records
abbrev pub keytab_octets : List Entry → List ℕ
keytab_octets es = 5 ∷ 2 ∷ flat_map entry_octets es

-- a record as it is written: both versions are of one number, and nothing is behind the second
abbrev pub IsPlain : Record → Type 0
IsPlain (live f rest) = (kvno : ℕ) × (kvno < 2 ^ 32) × (f.short_kvno ≡ kvno % 256) × (rest ≡ big_bytes 4 kvno)
IsPlain (hole octets) = ⊥
