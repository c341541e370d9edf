-- Days and seconds of real times.
use Rattle.std.proofs.Common.{◌≡◌, ◌≢◌, ◌<◌, ◌≤◌, ◌↔◌, inl, inr, arith, ℤ, pos, ◌<ℤ◌}
use Rattle.std.specs.Int.{int_div_euclid, int_rem_euclid}
use Rattle.jiff_core.specs.declared.civil.date.Date.{Date}
use Rattle.jiff_core.specs.Calendar.{IsEpochDay}
use Rattle.jiff_core.specs.Date.{epoch_day}
use Rattle.jiff_core.proofs.DateLemmas.{IsEarlier, cases_date, epoch_day-lt, epoch_day_injective, epoch_day_same, epoch_day_range}
use Rattle.jiff_core.proofs.CalendarLemmas.{days_in_month_bounds}
use Rattle.jiff_core.proofs.SignedLemmas.{signed_arith, int_div_euclid-parts, int_rem_euclid-parts}
use Rattle.krb_der_core.specs.GeneralizedTime.{Time, IsRealTime}
use Rattle.krb_types.specs.Times.{unix_day, second_of_day, unix_seconds, clock_number}

-- the date of a real time
date_of : (t : Time) → IsRealTime t → Date
date_of t real = record { year = pos t.year; month = t.month; day = t.day; year_in = real.0.1.0; month_in = (omega (arith, signed_arith), omega (arith, signed_arith)); day_in = (omega (arith, signed_arith), omega (arith, signed_arith)) }

-- no real time has the day of a date of a negative year
pub never_before_year_0 : (d : Date) (t : Time) → d.year <ℤ pos 0 → IsRealTime t → unix_day t ≢ epoch_day d
unfolding date_of
never_before_year_0 d t negative real e =
    let same = epoch_day_injective (date_of t real) d e in
    omega (arith, signed_arith, same.0)

-- its day is one that the calendar has
pub real_day : (t : Time) → IsRealTime t → IsEpochDay (unix_day t)
unfolding date_of
real_day t real = epoch_day_range (date_of t real)

-- it has fewer seconds than a day
pub real_second : (t : Time) → IsRealTime t → second_of_day t < 86400
real_second t real = omega arith

-- its day is the quotient of its seconds
pub day_of_seconds : (t : Time) (s : ℤ) → IsRealTime t → unix_seconds t ≡ s → unix_day t ≡ int_div_euclid s (pos 86400)
day_of_seconds t s real e =
    omega (arith, signed_arith, e, real_second t real, int_div_euclid-parts s 86400 (omega arith))

-- quotient and remainder make the seconds
pub seconds_of_parts : (t : Time) (s : ℤ) → unix_day t ≡ int_div_euclid s (pos 86400) → pos (second_of_day t) ≡ int_rem_euclid s (pos 86400) → unix_seconds t ≡ s
seconds_of_parts t s day second =
    omega (arith, signed_arith, day, second, int_rem_euclid-parts s 86400 (omega arith))

-- an earlier day makes fewer seconds
earlier_day : (a b : Time) (p : IsRealTime a) (q : IsRealTime b) → IsEarlier (date_of a p) (date_of b q) → unix_seconds a <ℤ unix_seconds b
unfolding date_of
earlier_day a b p q h = omega (arith, signed_arith, epoch_day-lt (date_of a p) (date_of b q) h, real_second a p, real_second b q)

-- months have at most 31 days
few_days : (t : Time) → IsRealTime t → t.day ≤ 31
few_days t real = omega (arith, signed_arith, days_in_month_bounds (pos t.year) t.month)

-- and a smaller number
earlier_number : (a b : Time) (p : IsRealTime a) (q : IsRealTime b) → IsEarlier (date_of a p) (date_of b q) → clock_number a < clock_number b
unfolding date_of
earlier_number a b p q (inl year) = omega (arith, signed_arith, year, few_days a p, few_days b q)
earlier_number a b p q (inr (year, inl month)) = omega (arith, signed_arith, year, month, few_days a p, few_days b q)
earlier_number a b p q (inr (year, inr (month, day))) = omega (arith, signed_arith, year, month, day)

-- of two times on one day the one with fewer seconds has the smaller number
same_day : (a b : Time) (p : IsRealTime a) (q : IsRealTime b) → (pos a.year ≡ pos b.year) × (a.month ≡ b.month) × (a.day ≡ b.day)
    → (clock_number a < clock_number b → unix_seconds a <ℤ unix_seconds b) × (unix_seconds a <ℤ unix_seconds b → clock_number a < clock_number b)
unfolding date_of
same_day a b p q (year, month, day) =
    let date : unix_day a ≡ unix_day b = epoch_day_same (date_of a p) (date_of b q) year month day in
    (λ h. omega (arith, signed_arith, h, date, year, month, day), λ h. omega (arith, signed_arith, h, date, year, month, day))

-- real times are in the order of their seconds
pub ordered : (a b : Time) → IsRealTime a → IsRealTime b → (clock_number a < clock_number b) ↔ (unix_seconds a <ℤ unix_seconds b)
unfolding date_of
ordered a b p q =
    elim (cases_date (date_of a p) (date_of b q)) [
      | inl lt ↦ (λ _. earlier_day a b p q lt, λ _. earlier_number a b p q lt)
      | inr (inl gt) ↦ (λ h. absurd (omega (arith, h, earlier_number b a q p gt)), λ h. absurd (omega (arith, signed_arith, h, earlier_day b a q p gt)))
      | inr (inr same) ↦ same_day a b p q same
    ]
