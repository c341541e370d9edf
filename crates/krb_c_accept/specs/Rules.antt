-- The rules by the numbers of krb.h, and what is told of a token that is refused.
use Rattle.std.specs.Prelude.{ℕ, ℤ, pos, Option, None, Some}
use Rattle.krb_accept.specs.TokenRefusals.{token_error_code}
use Rattle.krb_accept.specs.declared.token_refusal.TokenRefusal.{TokenRefusal}
use Rattle.krb_accept.specs.declared.token_refusal.TokenRefusal.TheVariants as refusal
use Rattle.krb_accept_rules.specs.declared.refusal.Rule.{Rule}
use Rattle.krb_accept_rules.specs.declared.refusal.Rule.TheVariants as Rules
use Rattle.krb_c_accept.specs.declared.records.AcceptedRecord.{AcceptedRecord}
use Rattle.krb_c_accept.specs.declared.records.OutPlace.{OutPlace}

-- the rules of an AP-REQ, in their order (RFC 4120, 3.2.3)
abbrev pub request_rule : Rule → ℕ
request_rule Rules.NotRequest = 1
request_rule Rules.Version = 2
request_rule Rules.MessageType = 3
request_rule Rules.TicketVersion = 4
request_rule Rules.Options = 5
request_rule Rules.UserToUser = 6
request_rule Rules.NotUs = 7
request_rule Rules.NoKey = 8
request_rule Rules.KeyVersion = 9
request_rule Rules.TicketSuite = 10
request_rule Rules.Ticket = 11
request_rule Rules.Flags = 12
request_rule Rules.SessionSuite = 13
request_rule Rules.Authenticator = 14
request_rule Rules.AuthenticatorVersion = 15
request_rule Rules.Microseconds = 16
request_rule Rules.SequenceNumber = 17
request_rule Rules.Subkey = 18
request_rule Rules.OtherClient = 19
request_rule Rules.OtherAddress = 20
request_rule Rules.Skew = 21
request_rule Rules.NotYetValid = 22
request_rule Rules.Invalid = 23
request_rule Rules.Expired = 24
request_rule Rules.Anonymous = 39
request_rule Rules.ClientRealm = 40
request_rule Rules.Path = 25
request_rule Rules.CriticalData = 26
request_rule Rules.DataForm = 27
request_rule Rules.Unremembered = 28
request_rule Rules.Repeat = 29
request_rule Rules.OutOfMemory = 0

-- behind them those of a token (RFC 4121, 4.1) and of the PAC (MS-PAC)
abbrev pub rule_number : TokenRefusal → ℕ
rule_number (refusal.Request r) = request_rule r.rule
rule_number refusal.Frame = 30
rule_number refusal.PacPlace = 41
rule_number refusal.PacMissing = 31
rule_number refusal.PacForm = 32
rule_number refusal.PacChecksum = 33
rule_number refusal.PacClient = 34
rule_number refusal.ChecksumType = 35
rule_number refusal.ChecksumLayout = 36
rule_number refusal.Bindings = 37
rule_number refusal.Delegation = 38

-- ---- what was seen of a rule

abbrev pub seen_of : TokenRefusal → Option ℤ
seen_of (refusal.Request r) = r.seen
seen_of other = None

abbrev pub seen_or_zero : Option ℤ → ℤ
seen_or_zero None = pos 0
seen_or_zero (Some n) = n

abbrev pub has_seen_number : Option ℤ → ℕ
has_seen_number None = 0
has_seen_number (Some n) = 1

-- ---- what is told

abbrev pub nowhere : OutPlace
nowhere = record { offset = 0; size = 0 }

-- nothing: all zeros, but for these numbers of a rule
abbrev pub no_client : ℤ → ℕ → ℕ → ℕ → AcceptedRecord
no_client seen rule code has_seen = record {
  entry = nowhere;
  session_key = nowhere;
  subkey = nowhere;
  own_subkey = nowhere;
  pac = nowhere;
  transited = nowhere;
  authorization_data = nowhere;
  restrictions = nowhere;
  delegated = nowhere;
  reply = nowhere;
  auth_time = pos 0;
  start_time = pos 0;
  end_time = pos 0;
  sequence_number = pos 0;
  seen = seen;
  flags = 0;
  ticket_flags = 0;
  session_etype = 0;
  subkey_etype = 0;
  transited_type = 0;
  rule = rule;
  code = code;
  has_seen = has_seen;
}

abbrev pub nothing : AcceptedRecord
nothing = no_client (pos 0) 0 0 0

abbrev pub refused_record : TokenRefusal → AcceptedRecord
refused_record e = no_client (seen_or_zero (seen_of e)) (rule_number e) (token_error_code e) (has_seen_number (seen_of e))
