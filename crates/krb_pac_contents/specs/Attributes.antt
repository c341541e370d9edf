-- Attributes of a PAC (MS-PAC 2.14, PAC_ATTRIBUTES_INFO), and the client that asked for it (2.15, PAC_REQUESTOR).
use Rattle.std.specs.Prelude.{ℕ, ◌+◌, ◌*◌, ◌/◌, nat_lt, List, [], ◌∷◌, length, Result, Ok, Err}
use Rattle.krb_pac_contents.specs.Numbers.{long_at}
use Rattle.krb_pac_contents.specs.Sid.{whole_sid_of}
use Rattle.krb_pac_contents.specs.declared.error.LogonError.{LogonError}
use Rattle.krb_pac_contents.specs.BufferSteps.{first_fault}
use Rattle.krb_pac_contents.specs.declared.buffers.error.BufferError.{BufferError}
use Rattle.krb_pac_contents.specs.declared.buffers.error.BufferError.TheVariants as errors

-- how many octets the flags have: four for each 32 bits that FlagsLength counts, and for what is left of it
abbrev pub flags_size : List ℕ → ℕ
flags_size b = (long_at 0 b + 31) / 32 * 4

-- FlagsLength, in bits, and Flags
unfoldable pub attributes_of : List ℕ → Result (List ℕ) BufferError
attributes_of b = first_fault
    ((nat_lt (length b) 8, errors.Truncated)
    ∷ (nat_lt (length b) (4 + flags_size b), errors.Truncated)
    ∷ (nat_lt (4 + flags_size b) (length b), errors.TrailingOctets) ∷ [])
    b

-- an identifier, or the error of none
abbrev pub as_sid : Result (List ℕ) LogonError → Result (List ℕ) BufferError
as_sid (Ok s) = Ok s
as_sid (Err e) = Err (errors.Sid e)

-- UserSid, all the octets
abbrev pub requestor_of : List ℕ → Result (List ℕ) BufferError
requestor_of b = as_sid (whole_sid_of b)
