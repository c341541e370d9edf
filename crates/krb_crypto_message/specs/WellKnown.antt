-- The well-known constants that keys are derived with (RFC 3961, 5.3).
use Rattle.std.specs.Prelude.{ℕ, ℤ, List, [], ◌∷◌, ◌++◌}
use Rattle.std.specs.Int.{w32, to_be_bytes, cast_unsigned}

-- the key usage number in four octets, the highest first, then the octet that says what the key is for
abbrev pub usage_constant : ℤ → ℕ → List ℕ
usage_constant usage kind = to_be_bytes w32 (cast_unsigned w32 usage) ++ kind ∷ []
