-- Hexadecimal digits in pairs with marks before and between them, as programs and people write octets.
use Rattle.std.specs.Prelude.{ℕ, nat_eq, Bool, ◌||◌, if◌then◌else◌, List, [], ◌∷◌}
use Rattle.krb_input.specs.Machines.{written_from}
use Rattle.krb_input.specs.declared.marks.Spot.{Spot}
use Rattle.krb_input.specs.declared.marks.Spot.TheVariants as spot

-- a colon, a comma or a hyphen
abbrev pub is_separator : ℕ → Bool
is_separator octet = nat_eq octet 58 || nat_eq octet 44 || nat_eq octet 45

-- where one is behind an octet that stands between pairs: a separator is dropped, `0` and `\` may begin a mark, and other octets begin a pair
abbrev pub behind_pair : ℕ → Spot
behind_pair octet =
    if is_separator octet then spot.BetweenPairs
    else if nat_eq octet 48 then spot.BehindZero
    else if nat_eq octet 92 then spot.BehindBackslash
    else spot.WithinPair

-- where one is behind an octet
abbrev pub spot_behind : Spot → ℕ → Spot
spot_behind spot.BetweenPairs octet = behind_pair octet
spot_behind spot.WithinPair octet = spot.BetweenPairs
spot_behind spot.BehindZero octet = spot.BetweenPairs
spot_behind spot.BehindBackslash octet = spot.BetweenPairs

-- what of an octet is a digit: nothing of a separator and of the marks 0x, 0X and \x
abbrev pub digits_of : Spot → ℕ → List ℕ
digits_of spot.BetweenPairs octet = if is_separator octet || nat_eq octet 48 || nat_eq octet 92 then [] else octet ∷ []
digits_of spot.WithinPair octet = octet ∷ []
digits_of spot.BehindZero octet = if nat_eq octet 120 || nat_eq octet 88 then [] else 48 ∷ octet ∷ []
digits_of spot.BehindBackslash octet = if nat_eq octet 120 then [] else 92 ∷ octet ∷ []

-- what is left at the end: a zero or a backslash with nothing behind it
abbrev pub digits_left : Spot → List ℕ
digits_left spot.BetweenPairs = []
digits_left spot.WithinPair = []
digits_left spot.BehindZero = 48 ∷ []
digits_left spot.BehindBackslash = 92 ∷ []

-- a text without its marks
abbrev pub unmarked : List ℕ → List ℕ
unmarked text = written_from digits_of spot_behind digits_left spot.BetweenPairs text
