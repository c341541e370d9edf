-- Security identifiers (MS-DTYP 2.4.2).
use Rattle.std.specs.Prelude.{ℕ, ◌+◌, ◌*◌, not, ◌==◌, nat_lt, List, [], ◌∷◌, length, take, drop, slice_index, Result, Err, if◌then◌else◌}
use Rattle.byteorder.specs.Endian.{big_number, little_number}
use Rattle.krb_pac_contents.specs.Numbers.{longs}
use Rattle.krb_pac_contents.specs.Steps.{Read, first_fault, ◌>>=◌}
use Rattle.krb_pac_contents.specs.declared.error.LogonError.{LogonError}
use Rattle.krb_pac_contents.specs.declared.error.LogonError.TheVariants as errors

-- how many octets a SID has, by its SubAuthorityCount
abbrev pub sid_size : List ℕ → ℕ
sid_size b = 8 + 4 * slice_index b 1

-- the SID that octets begin with (MS-DTYP 2.4.2.2): Revision 1, SubAuthorityCount, IdentifierAuthority, SubAuthority
unfoldable pub packed_sid_of : List ℕ → Result Read LogonError
packed_sid_of b = first_fault
    ((nat_lt (length b) 8, errors.Truncated)
    ∷ (not (slice_index b 0 == 1), errors.SidRevision)
    ∷ (nat_lt 15 (slice_index b 1), errors.SubAuthorityCount)
    ∷ (nat_lt (length b) (sid_size b), errors.Truncated) ∷ [])
    (record { octets = take (sid_size b) b; rest = drop (sid_size b) b })

-- the SID that octets are, all of them
unfoldable pub whole_sid_of : List ℕ → Result (List ℕ) LogonError
whole_sid_of b = packed_sid_of b >>= λ s. first_fault ((nat_lt 0 (length s.rest), errors.TrailingOctets) ∷ []) s.octets

-- IdentifierAuthority, six octets, the highest first (MS-DTYP 2.4.1.1)
abbrev pub identifier_authority : List ℕ → ℕ
identifier_authority sid = big_number 6 (drop 2 sid)

-- SubAuthority, as many numbers of four octets as SubAuthorityCount says
abbrev pub sub_authorities : List ℕ → List ℕ
sub_authorities sid = longs (slice_index sid 1) (drop 8 sid)

-- the SID as NDR has it, a conformant structure (MS-DTYP 2.4.2.3, RPC_SID; C706, 14.3.7.1): the maximum count is before it
unfoldable pub sid_of : List ℕ → Result Read LogonError
sid_of b = if nat_lt (length b) 12 then Err errors.Truncated
    else if not (little_number 4 b == slice_index b 5) then Err errors.SidConformance
    else packed_sid_of (drop 4 b)
