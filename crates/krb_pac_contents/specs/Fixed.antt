-- The pointers of the fixed part of KERB_VALIDATION_INFO (MS-PAC 2.5), looked at in the order of its octets.
--
-- They are unique pointers (C706, 14.3.11.2): a referent id of 0 is null, and any other says no more.
-- Each pointer is read by itself, so ids may be in any order, and two may have the same: those of
-- full pointers alone tell which octets are one.
use Rattle.std.specs.Prelude.{ℕ, ◌+◌, ◌%◌, ◌&&◌, ◌||◌, not, ◌==◌, nat_lt, List, [], ◌∷◌, Result}
use Rattle.krb_pac_contents.specs.Numbers.{short_at, long_at}
use Rattle.krb_pac_contents.specs.Steps.{first_fault, ◌>>=◌}
use Rattle.krb_pac_contents.specs.declared.error.LogonError.{LogonError}
use Rattle.krb_pac_contents.specs.declared.error.LogonError.TheVariants as errors

-- nothing, or the first error
abbrev pub Checked : Type 0
Checked = Result (Unit {0}) LogonError

-- of an RPC_UNICODE_STRING at a place (MS-DTYP 2.3.10): Length, MaximumLength, Buffer
unfoldable pub string_pointer_of : List ℕ → ℕ → Checked
string_pointer_of f at = first_fault
    ((not (short_at at f % 2 == 0) || not (short_at (at + 2) f % 2 == 0), errors.StringLength)
    ∷ (nat_lt (short_at (at + 2) f) (short_at at f), errors.StringMaximum)
    ∷ (long_at (at + 4) f == 0 && not (short_at (at + 2) f == 0), errors.NullPointer) ∷ []) tt

-- of an array at a place: its count, and the pointer to its elements
unfoldable pub array_pointer_of : List ℕ → ℕ → Checked
array_pointer_of f at = first_fault
    ((long_at (at + 4) f == 0 && not (long_at at f == 0), errors.NullPointer)
    ∷ (not (long_at (at + 4) f == 0) && long_at at f == 0, errors.EmptyArray) ∷ []) tt

-- of a pointer at a place that may not be null
unfoldable pub needed_pointer_of : List ℕ → ℕ → Checked
needed_pointer_of f at = first_fault ((long_at at f == 0, errors.NullPointer) ∷ []) tt

-- of the six strings from EffectiveName to HomeDirectoryDrive
unfoldable pub name_pointers_of : List ℕ → Checked
name_pointers_of f = do
  a ← string_pointer_of f 48
  b ← string_pointer_of f 56
  c ← string_pointer_of f 64
  d ← string_pointer_of f 72
  e ← string_pointer_of f 80
  string_pointer_of f 88

-- of GroupIds, LogonServer, LogonDomainName and LogonDomainId
unfoldable pub domain_pointers_of : List ℕ → Checked
domain_pointers_of f = do
  a ← array_pointer_of f 108
  b ← string_pointer_of f 136
  c ← string_pointer_of f 144
  needed_pointer_of f 152

-- of ExtraSids and ResourceGroupIds; ResourceGroupDomainSid between them may be null
unfoldable pub extra_pointers_of : List ℕ → Checked
extra_pointers_of f = do
  a ← array_pointer_of f 196
  array_pointer_of f 208

-- of all of them
unfoldable pub pointers_of : List ℕ → Checked
pointers_of f = do
  a ← name_pointers_of f
  b ← domain_pointers_of f
  extra_pointers_of f
