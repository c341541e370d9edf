-- The number that a content is.
use Rattle.std.specs.Prelude.{◌≡◌, ◌⊎◌, ◌<◌, ℕ, ℤ, pos, List, FitsSigned}
use Rattle.std.specs.Int.{w64}
use Rattle.krb_der_core.specs.Integer.{shortest}

-- The number whose INTEGER has this content fits 64 bits and is handed out (0), or it does not fit (21).
abbrev pub IsWholeNumber : List ℕ → ℤ → ℕ → Type 0
IsWholeNumber content number status =
    (whole : ℤ) × (content ≡ shortest whole)
    × (((status ≡ 0) × FitsSigned w64 whole × (number ≡ whole)) ⊎ ((status ≡ 21) × (FitsSigned w64 whole → ⊥) × (number ≡ pos 0)))

-- The content is that of an INTEGER, whose number it is; it is that of none, and is refused; or memory is wanting (2).
abbrev pub IsContentNumber : List ℕ → ℤ → ℕ → Type 0
IsContentNumber content number status =
    IsWholeNumber content number status
    ⊎ (((whole : ℤ) → content ≡ shortest whole → ⊥) × (1 < status) × (number ≡ pos 0))
    ⊎ ((status ≡ 2) × (number ≡ pos 0))
