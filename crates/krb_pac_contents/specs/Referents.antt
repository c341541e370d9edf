-- What pointers point to, in NDR (C706, chapter 14), each at a multiple of 4 octets.
use Rattle.std.specs.Prelude.{ℕ, zero, suc, ◌+◌, ◌-◌, ◌*◌, ◌/◌, ◌%◌, not, ◌==◌, nat_lt, List, [], ◌∷◌, length, take, drop, Option, Some, None, Result, Ok, if◌then◌else◌}
use Rattle.krb_pac_contents.specs.Fixed.{Checked, needed_pointer_of}
use Rattle.krb_pac_contents.specs.Numbers.{short_at, long_at}
use Rattle.krb_pac_contents.specs.Sid.{sid_of}
use Rattle.krb_pac_contents.specs.Steps.{Read, first_fault, ◌>>=◌}
use Rattle.krb_pac_contents.specs.declared.error.LogonError.{LogonError}
use Rattle.krb_pac_contents.specs.declared.error.LogonError.TheVariants as errors

-- nothing is taken
abbrev pub nothing : List ℕ → Read
nothing b = record { octets = []; rest = b }

-- the fewest octets that make this length a multiple of 4
abbrev pub padding : ℕ → ℕ
padding len = (4 - len % 4) % 4

-- the characters of an RPC_UNICODE_STRING of this length and maximum length (MS-DTYP 2.3.10), a conformant and varying array (C706,
-- 14.3.3.4): its maximum count, offset and actual count, counted in characters of two octets, and the characters, padded
unfoldable pub string_of : ℕ → ℕ → List ℕ → Result Read LogonError
string_of len max b = first_fault
    ((nat_lt (length b) 12, errors.Truncated)
    ∷ (not (long_at 0 b == max / 2), errors.MaximumCount)
    ∷ (not (long_at 4 b == 0), errors.Offset)
    ∷ (not (long_at 8 b == len / 2), errors.ActualCount)
    ∷ (nat_lt (length b) (12 + len), errors.Truncated)
    ∷ (nat_lt (length b) (12 + len + padding len), errors.Padding) ∷ [])
    (record { octets = take len (drop 12 b); rest = drop (padding len) (drop len (drop 12 b)) })

-- what the string at a place of the fixed part points to
unfoldable pub string_at : List ℕ → ℕ → List ℕ → Result Read LogonError
string_at f at b = if long_at (at + 4) f == 0 then Ok (nothing b) else string_of (short_at at f) (short_at (at + 2) f) b

-- so many elements of 8 octets, a conformant array (C706, 14.3.3.3): its maximum count, and the elements
unfoldable pub array_of : ℕ → List ℕ → Result Read LogonError
array_of count b = first_fault
    ((nat_lt (length b) 4, errors.Truncated)
    ∷ (not (long_at 0 b == count), errors.MaximumCount)
    ∷ (nat_lt (length b) (4 + 8 * count), errors.Truncated) ∷ [])
    (record { octets = take (8 * count) (drop 4 b); rest = drop (8 * count) (drop 4 b) })

-- what the array at a place of the fixed part points to: its count, and the pointer
unfoldable pub array_at : List ℕ → ℕ → List ℕ → Result Read LogonError
array_at f at b = if long_at (at + 4) f == 0 then Ok (nothing b) else array_of (long_at at f) b

-- the pointers that n elements of KERB_SID_AND_ATTRIBUTES begin with (MS-PAC 2.2.1): none is null
unfoldable pub element_pointers_of : ℕ → List ℕ → Checked
element_pointers_of zero b = Ok tt
element_pointers_of (suc n) b = needed_pointer_of b 0 >>= λ p. element_pointers_of n (drop 8 b)

-- the octets after n SIDs that stand one after the other
unfoldable pub after_sids : ℕ → List ℕ → Result (List ℕ) LogonError
after_sids zero b = Ok b
after_sids (suc n) b = sid_of b >>= λ s. after_sids n s.rest

-- the elements of ExtraSids, and from where on what they point to stands
pub record ExtraSids : Type 0 where
  pub elements : List ℕ
  pub sids : List ℕ
  pub rest : List ℕ

-- ExtraSids, an array whose elements' pointers point to SIDs that follow the array in the order of its elements (C706, 14.3.11.3)
unfoldable pub extra_sids_of : ℕ → List ℕ → Result ExtraSids LogonError
extra_sids_of count b = do
  a ← array_of count b
  p ← element_pointers_of count a.octets
  r ← after_sids count a.rest
  Ok (record { elements = a.octets; sids = a.rest; rest = r })

unfoldable pub extra_sids_at : List ℕ → List ℕ → Result ExtraSids LogonError
extra_sids_at f b = if long_at 200 f == 0 then Ok (record { elements = []; sids = []; rest = b }) else extra_sids_of (long_at 196 f) b

-- a SID that may not be there
pub record MaybeSid : Type 0 where
  pub sid : Option (List ℕ)
  pub rest : List ℕ

-- what the pointer to ResourceGroupDomainSid points to
unfoldable pub resource_sid_at : List ℕ → List ℕ → Result MaybeSid LogonError
resource_sid_at f b = if long_at 204 f == 0 then Ok (record { sid = None; rest = b }) else sid_of b >>= λ s. Ok (record { sid = Some s.octets; rest = s.rest })
