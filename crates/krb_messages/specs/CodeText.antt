-- The text of an error code (RFC 4120, 7.5.9), in the form that the original prints it in.
use Rattle.std.specs.Prelude.{ℕ, ◌+◌, nat_lt, if◌then◌else◌, List, [], ◌∷◌, ◌++◌, map, codes}
use Rattle.std.specs.Int.Digits.{digits_of}

-- the upper case hexadecimal digit of a number below 16: `0` to `9`, then `A` to `F`
abbrev pub hexadecimal_digit : ℕ → ℕ
hexadecimal_digit d = if nat_lt d 10 then 48 + d else 55 + d

-- at least two digits, by leading zeros
abbrev pub at_least_two : List ℕ → List ℕ
at_least_two [] = 0 ∷ 0 ∷ []
at_least_two (a ∷ []) = 0 ∷ a ∷ []
at_least_two (a ∷ b ∷ digits) = a ∷ b ∷ digits

-- `0x` and the upper case hexadecimal digits of the code, at least two
abbrev pub code_text : ℕ → List ℕ
code_text code = codes "0x" ++ map hexadecimal_digit (at_least_two (digits_of 16 code))
