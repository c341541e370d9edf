-- Times, numbers and octets as text.
use Rattle.std.specs.Prelude.{◌≡◌, ◌≢◌, ◌⊎◌, ◌≤◌, ◌/◌, ◌%◌, ℕ, ℤ, nat_le, nat_lt, ◌&&◌, ◌+◌, if◌then◌else◌, FitsSigned, take, drop, Option, None, Some, List, [], ◌∷◌, ◌++◌, codes}
use Rattle.std.specs.Fmt.{decimal, signed_decimal}
use Rattle.std.specs.Int.{w64}
use Rattle.std.specs.List.{AllByRecursion, flat_map}
use Rattle.krb_der_core.specs.GeneralizedTime.{Time, IsRealTime, four_digits, two_digits}
use Rattle.krb_types.specs.Times.{unix_seconds}

-- ---- times

-- YYYY-MM-DDTHH:MM:SSZ (ISO 8601)
abbrev pub time_text : Time → List ℕ
time_text t =
    four_digits t.year ++ 45 ∷ two_digits t.month ++ 45 ∷ two_digits t.day ++ 84 ∷ two_digits t.hour ++ 58 ∷ two_digits t.minute ++ 58 ∷ two_digits t.second
    ++ 90 ∷ []

-- the digits of such a text, and its `Z`: the content in DER (X.690, 11.7)
abbrev pub digits_of : List ℕ → List ℕ
digits_of text =
    take 4 text ++ take 2 (drop 5 text) ++ take 2 (drop 8 text) ++ take 2 (drop 11 text) ++ take 2 (drop 14 text) ++ take 3 (drop 17 text)

-- this is the text of no time
abbrev pub IsNoText : List ℕ → Type 0
IsNoText text = (t : Time) → IsRealTime t → text ≢ time_text t

-- this is the text of a time of a year of 0 to 9999, so many seconds since 1970
abbrev pub IsTimeOf : List ℕ → ℤ → Type 0
IsTimeOf text seconds = (t : Time) × IsRealTime t × (text ≡ time_text t) × (seconds ≡ unix_seconds t)

-- no such time is so many seconds since 1970
abbrev pub IsNoTime : ℤ → Type 0
IsNoTime seconds = (t : Time) → IsRealTime t → unix_seconds t ≢ seconds

-- the text of the time of so many seconds since 1970, or the number where there is no such time
abbrev pub IsMoment : ℤ → List ℕ → Type 0
IsMoment seconds text = IsTimeOf text seconds ⊎ (IsNoTime seconds × (text ≡ signed_decimal seconds))

-- ---- numbers

-- a number of any length in decimal, where 64 bits hold it
abbrev pub IsNumber : ℤ → List ℕ → Type 0
IsNumber number text =
    (FitsSigned w64 number × (text ≡ signed_decimal number)) ⊎ ((FitsSigned w64 number → ⊥) × (text ≡ codes "past 64 bits"))

-- such a number, if there is one
abbrev pub IsNumberOrNone : Option ℤ → List ℕ → Type 0
IsNumberOrNone None text = text ≡ codes "none"
IsNumberOrNone (Some number) text = IsNumber number text

-- numbers, with `, ` between them
abbrev pub listed_after : List ℕ → List ℕ
listed_after numbers = flat_map (λ n. codes ", " ++ decimal n) numbers

abbrev pub listed : List ℕ → List ℕ
listed [] = codes "none"
listed (first ∷ rest) = decimal first ++ listed_after rest

-- ---- printable ASCII

-- from the blank to `~`
abbrev pub IsPrintable : ℕ → Type 0
IsPrintable octet = (32 ≤ octet) × (octet ≤ 126)

abbrev pub ArePrintable : List ℕ → Type 0
ArePrintable = AllByRecursion IsPrintable

-- a hexadecimal digit in lower case
abbrev pub digit : ℕ → ℕ
digit n = if nat_lt n 10 then 48 + n else 87 + n

-- an octet that is printable as itself, another as its two hexadecimal digits behind `\x`
abbrev pub printed_octet : ℕ → List ℕ
printed_octet octet = if nat_le 32 octet && nat_le octet 126 then octet ∷ [] else codes "\\x" ++ digit (octet / 16) ∷ digit (octet % 16) ∷ []

abbrev pub printed : List ℕ → List ℕ
printed text = flat_map printed_octet text
