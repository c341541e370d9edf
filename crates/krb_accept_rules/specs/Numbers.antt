-- Integers of a limited range (RFC 4120, 5.2.4), or of a list.
use Rattle.std.specs.Prelude.{◌≡◌, ℕ, ℤ, pos, ◌<◌, ◌^◌, List}
use Rattle.krb_accept_rules.specs.Firsts.{OneIs}

-- UInt32: 0 to 4294967295
abbrev pub IsNumber32 : ℤ → Type 0
IsNumber32 z = (n : ℕ) × (z ≡ pos n) × (n < 2 ^ 32)

-- Microseconds: 0 to 999999
abbrev pub HasMicroseconds : ℤ → Type 0
HasMicroseconds cusec = (n : ℕ) × (cusec ≡ pos n) × (n < 1000000)

-- one of these numbers
abbrev pub IsListed : List ℕ → ℤ → Type 0
IsListed numbers z = OneIs (λ n. z ≡ pos n) numbers
