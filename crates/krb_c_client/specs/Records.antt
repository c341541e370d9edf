-- What is told of a message (krb_followed of krb.h).
use Rattle.std.specs.Prelude.{ℕ}
use Rattle.krb_c_accept.specs.declared.records.OutPlace.{OutPlace}
use Rattle.krb_c_client.specs.declared.records.FollowedRecord.{FollowedRecord}

abbrev pub nowhere : OutPlace
nowhere = record { offset = 0; size = 0 }

abbrev pub without_ticket : ℕ → ℕ → ℕ → FollowedRecord
without_ticket follows rule code = record { ticket = nowhere; part = nowhere; follows = follows; rule = rule; code = code }

-- nothing: all zeros
abbrev pub nothing : FollowedRecord
nothing = without_ticket 0 0 0

-- a request (KRB_FOLLOWS_SENDS)
abbrev pub sends : FollowedRecord
sends = without_ticket 1 0 0

-- the next message is waited for (KRB_FOLLOWS_WAITS)
abbrev pub waits : FollowedRecord
waits = without_ticket 2 0 0

-- a rule is broken
abbrev pub broken : ℕ → ℕ → FollowedRecord
broken rule code = without_ticket 0 rule code

-- a ticket of this size, and its part behind it (KRB_FOLLOWS_GRANTED)
abbrev pub grants : ℕ → ℕ → FollowedRecord
grants ticket_size part_size = record {
  ticket = record { offset = 0; size = ticket_size };
  part = record { offset = ticket_size; size = part_size };
  follows = 3;
  rule = 0;
  code = 0;
}
