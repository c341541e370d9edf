-- When a ticket is valid (RFC 4120, 3.2.3 and 5.3).
use Rattle.std.specs.Prelude.{ℤ, Option, None, Some}
use Rattle.krb_der_core.specs.GeneralizedTime.{Time}
use Rattle.krb_types.specs.Times.{unix_seconds}
use Rattle.krb_accept_rules.specs.declared.fields.TicketFields.{TicketFields}

-- the second time where the first is absent
abbrev pub time_or : Option Time → Time → Time
time_or None time = time
time_or (Some time) other = time

-- from when on it is valid (5.3: where starttime is absent, from authtime on), in seconds
abbrev pub start_of : TicketFields → ℤ
start_of ticket = unix_seconds (time_or ticket.start_time ticket.auth_time)

-- until when it is valid, in seconds
abbrev pub end_of : TicketFields → ℤ
end_of ticket = unix_seconds ticket.end_time
