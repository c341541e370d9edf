-- GeneralizedTime (X.690, 8.25 and 11.7), in the one form of a KerberosTime (RFC 4120, 5.2.3): UTC, to the second.
use Rattle.std.specs.Prelude.{ℕ, ◌+◌, ◌*◌, ◌/◌, ◌%◌, ◌≤◌, List, [], ◌∷◌, ◌++◌, slice_index, pos}
use Rattle.jiff.specs.Words.{IsDate}

-- a time, by its six numbers
pub record Time : Type 0 where
  pub year : ℕ
  pub month : ℕ
  pub day : ℕ
  pub hour : ℕ
  pub minute : ℕ
  pub second : ℕ

abbrev pub time : ℕ → ℕ → ℕ → ℕ → ℕ → ℕ → Time
time y m d h n s = record { year = y; month = m; day = d; hour = h; minute = n; second = s }

-- ---- the times that are real

-- the Gregorian calendar has this day, and its year has four digits
abbrev pub IsRealDate : ℕ → ℕ → ℕ → Type 0
IsRealDate year month day = (year ≤ 9999) × IsDate (pos year) (pos month) (pos day)

-- each day has this second, so none is a leap second
abbrev pub IsTimeOfDay : ℕ → ℕ → ℕ → Type 0
IsTimeOfDay hour minute second = (hour ≤ 23) × (minute ≤ 59) × (second ≤ 59)

abbrev pub IsRealTime : Time → Type 0
IsRealTime t = IsRealDate t.year t.month t.day × IsTimeOfDay t.hour t.minute t.second

-- ---- their octets

-- the last decimal digit of a number, in ASCII
abbrev pub last_digit : ℕ → ℕ
last_digit n = 48 + n % 10

abbrev pub two_digits : ℕ → List ℕ
two_digits n = last_digit (n / 10) ∷ last_digit n ∷ []

abbrev pub four_digits : ℕ → List ℕ
four_digits n = last_digit (n / 1000) ∷ last_digit (n / 100) ∷ two_digits n

-- The content (X.690, 11.7): YYYYMMDDHHMMSS, and the Z of UTC.
abbrev pub time_content : Time → List ℕ
time_content t =
    four_digits t.year ++ two_digits t.month ++ two_digits t.day ++ two_digits t.hour ++ two_digits t.minute ++ two_digits t.second ++ 90 ∷ []

-- ---- and back

-- What the two octets from i on represent. A digit is 48 more than what it represents, and 48 is a multiple of 16.
abbrev pub number_at : List ℕ → ℕ → ℕ
number_at content i = 10 * (slice_index content i % 16) + slice_index content (i + 1) % 16

-- the time that a content stands for
abbrev pub time_read : List ℕ → Time
time_read content =
    time (100 * number_at content 0 + number_at content 2) (number_at content 4) (number_at content 6)
    (number_at content 8) (number_at content 10) (number_at content 12)
