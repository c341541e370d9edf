-- Messages behind their lengths, as they go over a stream (RFC 4120, 7.2.2).
use Rattle.std.specs.Prelude.{◌≡◌, ℕ, ◌<◌, ◌≤◌, ◌^◌, List, ◌++◌, length}
use Rattle.std.specs.Int.{to_be_bytes, w32}
use Rattle.krb_kdc_proxy.specs.declared.error.ProxyError.{ProxyError}
use Rattle.krb_kdc_proxy.specs.declared.error.ProxyError.TheVariants as errors

-- four octets of the message's length, the highest first, and the message
abbrev pub prefixed : List ℕ → List ℕ
prefixed message = to_be_bytes w32 (length message) ++ message

-- the highest bit of the length is 0
abbrev pub IsPrefixed : List ℕ → List ℕ → Type 0
IsPrefixed octets message = (length message < 2 ^ 31) × (octets ≡ prefixed message)

-- the octets are no message behind its length: there is no length, or it is another
abbrev pub IsNotPrefixed : List ℕ → ProxyError → Type 0
IsNotPrefixed octets errors.NoLength = length octets < 4
IsNotPrefixed octets errors.OtherLength = (4 ≤ length octets) × ((message : List ℕ) → IsPrefixed octets message → ⊥)
IsNotPrefixed octets other = ⊥
