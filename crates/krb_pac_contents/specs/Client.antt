-- The client's name and the time of its authentication (MS-PAC 2.7, PAC_CLIENT_INFO).
use Rattle.std.specs.Prelude.{ℕ, ◌+◌, ◌%◌, not, ◌==◌, nat_lt, List, [], ◌∷◌, length, drop, Result}
use Rattle.krb_pac_contents.specs.Numbers.{short_at}
use Rattle.krb_pac_contents.specs.BufferSteps.{first_fault}
use Rattle.krb_pac_contents.specs.declared.buffers.error.BufferError.{BufferError}
use Rattle.krb_pac_contents.specs.declared.buffers.error.BufferError.TheVariants as errors

-- ClientId, eight octets, NameLength, two, and Name, as many as NameLength says, in UTF-16: all the octets
unfoldable pub client_info_of : List ℕ → Result (List ℕ) BufferError
client_info_of b = first_fault
    ((nat_lt (length b) 10, errors.Truncated)
    ∷ (not (short_at 8 b % 2 == 0), errors.NameLength)
    ∷ (nat_lt (length b) (10 + short_at 8 b), errors.Truncated)
    ∷ (nat_lt (10 + short_at 8 b) (length b), errors.TrailingOctets) ∷ [])
    b

-- Name
abbrev pub client_name : List ℕ → List ℕ
client_name b = drop 10 b
