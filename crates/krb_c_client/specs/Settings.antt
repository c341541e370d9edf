-- The settings of a call (KRB_CLIENT_.. and KRB_AP_.. of krb.h): powers of two, added.
use Rattle.std.specs.Prelude.{ℕ, ℤ, ◌/◌, ◌%◌, ◌==◌, Bool, if◌then◌else◌, Option, Some, None}

abbrev pub has_setting : ℕ → ℕ → Bool
has_setting settings setting = settings / setting % 2 == 1

-- what is there where the setting is
abbrev pub optional : ℕ → ℕ → ℤ → Option ℤ
optional settings setting time = if has_setting settings setting then Some time else None

abbrev pub optional_number : ℕ → ℕ → ℕ → Option ℕ
optional_number settings setting number = if has_setting settings setting then Some number else None
