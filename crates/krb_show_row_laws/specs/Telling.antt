-- What a text tells.
use Rattle.std.specs.Prelude.{◌≡◌, ℕ, nat_eq, nat_le, Bool, true, false, ◌&&◌, ◌||◌, List, [], ◌∷◌}
use Rattle.krb_show_text.specs.Text.{is_printable}

-- ---- octets up to another

-- each of these octets passes a test
abbrev pub all_of : (ℕ → Bool) → List ℕ → Bool
all_of test [] = true
all_of test (x ∷ xs) = test x && all_of test xs

-- no octet that passes is here first
abbrev pub Stops : (ℕ → Bool) → List ℕ → Type 0
Stops test [] = Unit {0}
Stops test (x ∷ xs) = test x ≡ false

-- ---- names

abbrev pub other_than : Bool → Bool
other_than true = false
other_than false = true

-- an octet of a name: printable, and no blank, `:`, `[` or `\`
abbrev pub is_name_octet : ℕ → Bool
is_name_octet octet = is_printable octet && other_than (nat_eq octet 32 || nat_eq octet 58 || nat_eq octet 91 || nat_eq octet 92)

-- a name of a line: one such octet or more
abbrev pub is_name : List ℕ → Bool
is_name [] = false
is_name (x ∷ xs) = is_name_octet x && all_of is_name_octet xs

-- ---- words

-- an octet of a word: printable, and no blank
abbrev pub is_word_octet : ℕ → Bool
is_word_octet octet = is_printable octet && other_than (nat_eq octet 32)

abbrev pub is_blank : ℕ → Bool
is_blank octet = nat_eq octet 32

-- a decimal digit in ASCII
abbrev pub is_digit : ℕ → Bool
is_digit octet = nat_le 48 octet && nat_le octet 57

-- a name that begins as `octets` does
abbrev pub begins_as_octets : List ℕ → Bool
begins_as_octets [] = false
begins_as_octets (x ∷ []) = false
begins_as_octets (x ∷ y ∷ rest) = nat_eq x 111 && nat_eq y 99

-- what stands on a line behind a word: nothing, or a blank and names
abbrev pub IsBeside : List ℕ → Type 0
IsBeside [] = Unit {0}
IsBeside (x ∷ xs) = x ≡ 32

-- what stands there behind a number: nothing, or a blank and a name that does not begin as `octets` does
abbrev pub IsNameBeside : List ℕ → Type 0
IsNameBeside [] = Unit {0}
IsNameBeside (x ∷ xs) = (x ≡ 32) × (begins_as_octets xs ≡ false)
