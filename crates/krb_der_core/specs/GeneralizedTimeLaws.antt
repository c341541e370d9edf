-- A GeneralizedTime has one content a value.
use Rattle.std.proofs.Common.{◌≡◌, ℕ, ◌+◌, ◌*◌, ◌/◌, ◌%◌, ◌≤◌, refl, sym, ap, ◌∙◌, arith}
use Rattle.std.proofs.lemmas.Int.{ints}
use Rattle.krb_der_core.specs.Encoding.{OneValue}
use Rattle.krb_der_core.specs.GeneralizedTime.{Time, time, IsRealDate, IsRealTime, last_digit, time_content, time_read}

-- two digits give back a number below 100
number_read_back : (n : ℕ) → n ≤ 99 → 10 * (last_digit (n / 10) % 16) + last_digit n % 16 ≡ n
number_read_back n h = omega arith

-- four digits give back a year
year_read_back : (n : ℕ) → n ≤ 9999
    → 100 * (10 * (last_digit (n / 1000) % 16) + last_digit (n / 100) % 16) + (10 * (last_digit (n / 10) % 16) + last_digit n % 16) ≡ n
year_read_back n h = omega arith

-- no month is past 12, and no day past 31
month_bound : (y m d : ℕ) → IsRealDate y m d → m ≤ 12
month_bound y m d real = omega (arith, ints)

day_bound : (y m d : ℕ) → IsRealDate y m d → d ≤ 31
day_bound y m d real = grind (arith, ints)

-- a time is made of its six numbers
same_times : (t : Time) (y m d h n s : ℕ) → y ≡ t.year → m ≡ t.month → d ≡ t.day → h ≡ t.hour → n ≡ t.minute → s ≡ t.second → time y m d h n s ≡ t
same_times t y m d h n s ey em ed eh en es = rw (ey, em, ed, eh, en, es) refl

-- the content of a real time is read as that time
pub time_read-time_content : (t : Time) → IsRealTime t → time_read (time_content t) ≡ t
time_read-time_content t real =
    same_times t _ _ _ _ _ _
    (year_read_back t.year real.0.0)
    (number_read_back t.month (omega (arith, month_bound t.year t.month t.day real.0)))
    (number_read_back t.day (omega (arith, day_bound t.year t.month t.day real.0)))
    (number_read_back t.hour (omega arith))
    (number_read_back t.minute (omega arith))
    (number_read_back t.second (omega arith))

-- so times that have one content are one time
pub time_one_content : OneValue IsRealTime time_content
time_one_content v w real_v real_w same =
    sym (time_read-time_content v real_v) ∙ ap time_read same ∙ time_read-time_content w real_w
