-- How many flags there are (RFC 4120, 5.2.8).
use Rattle.std.specs.Prelude.{◌≤◌, ◌+◌, ◌*◌, length}
use Rattle.krb_der_core.specs.BitString.{Bits}

-- at least 32 bits are used
abbrev pub HasFlags : Bits → Type 0
HasFlags flags = 32 + flags.spare ≤ 8 * length flags.octets
