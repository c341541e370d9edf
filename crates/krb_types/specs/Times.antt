-- Times as seconds (POSIX.1-2017, 4.16, "Seconds Since the Epoch").
use Rattle.std.specs.Prelude.{ℕ, ◌+◌, ◌*◌, ℤ, pos, ◌+ℤ◌, ◌*ℤ◌}
use Rattle.jiff_core.specs.Calendar.{days_from_civil}
use Rattle.krb_der_core.specs.GeneralizedTime.{Time}

-- the days since 1 January 1970
abbrev pub unix_day : Time → ℤ
unix_day t = days_from_civil (pos t.year) t.month t.day

-- the seconds since midnight
abbrev pub second_of_day : Time → ℕ
second_of_day t = 3600 * t.hour + 60 * t.minute + t.second

-- 86,400 for each day since 1 January 1970, and the seconds since midnight
abbrev pub unix_seconds : Time → ℤ
unix_seconds t = (pos 86400 *ℤ unix_day t) +ℤ pos (second_of_day t)

-- YYYYMMDDHHMMSS as one number: of two times the earlier one has the smaller
abbrev pub clock_number : Time → ℕ
clock_number t = ((((t.year * 100 + t.month) * 100 + t.day) * 100 + t.hour) * 100 + t.minute) * 100 + t.second
