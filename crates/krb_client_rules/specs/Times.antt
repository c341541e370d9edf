-- Times of tickets, and the time that a server sends back (RFC 4120, 3.1.3, 3.2.5 and 5.3).
use Rattle.std.specs.Prelude.{◌≡◌, ◌⊎◌, ℕ, ◌≤◌, ℤ, pos, ◌≤ℤ◌, ◌-ℤ◌, int_le, unsigned_abs, Option, Some, None, if◌then◌else◌}
use Rattle.krb_der_core.specs.GeneralizedTime.{Time}
use Rattle.krb_types.specs.Times.{unix_seconds}
use Rattle.krb_enc_parts.specs.declared.data_types.authenticators.EncApRepPartInner.{EncApRepPartInner}
use Rattle.krb_client_rules.specs.declared.confirmed.Sent.{Sent}

-- from when on a ticket is to be valid: now, or later where a later time was asked for (3.1.3)
abbrev pub begin_of : Option ℤ → ℤ → ℤ
begin_of None now = now
begin_of (Some from) now = (if int_le from now then now else from)

-- two times in seconds are at most so many apart
abbrev pub IsWithin : ℕ → ℤ → ℤ → Type 0
IsWithin skew first second = unsigned_abs (first -ℤ second) ≤ skew

-- starttime, and where it is absent, authtime (5.3)
abbrev pub start_or : Option Time → Time → Time
start_or None authtime = authtime
start_or (Some time) authtime = time

-- the time is not after the one that was asked for; where that is 0, none was (5.4.1)
abbrev pub IsInTime : ℤ → Time → Type 0
IsInTime limit time = (limit ≡ pos 0) ⊎ (unix_seconds time ≤ℤ limit)

-- the same, where one was asked for
abbrev pub IsInTimeOf : Option ℤ → Time → Type 0
IsInTimeOf None time = Unit {0}
IsInTimeOf (Some limit) time = IsInTime limit time

-- the first time is not after the second
abbrev pub IsOrdered : Time → Time → Type 0
IsOrdered first second = unix_seconds first ≤ℤ unix_seconds second

-- the time is the very one of the authenticator, to the microsecond (3.2.5)
abbrev pub HasTime : Sent → EncApRepPartInner → Type 0
HasTime s p = (unix_seconds p.ctime ≡ s.seconds) × (p.cusec ≡ pos s.microseconds)
