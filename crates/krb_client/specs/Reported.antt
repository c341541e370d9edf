-- Errors that a KDC reports (RFC 4120, 5.9.1).
use Rattle.std.specs.Prelude.{◌≡◌, ℕ, List}
use Rattle.krb_der_core.specs.declared.der.DerEncode.{Ghosts as EncodingOf}
use Rattle.krb_messages.specs.declared.messages.errors.KrbErrorInner.{KrbErrorInner}
use Rattle.krb_types.specs.Times.{unix_seconds}
use Rattle.krb_client.specs.declared.replies.reported.Reported.{Reported}
use Rattle.krb_client.specs.Messages.{IsMessage, error_numbers}

abbrev pub report_of : KrbErrorInner → Reported
report_of v = record { code = v.error_code; seconds = unix_seconds v.stime; e_data = v.e_data.0 }

-- the octets are the one encoding of a KRB-ERROR (type 30), and this is its code, its time and its data
pub record IsReported (t : EncodingOf KrbErrorInner) (octets : List ℕ) (r : Reported) : Type 0 where
  pub message : KrbErrorInner
  pub is_message : IsMessage t error_numbers 30 octets message
  pub report : r ≡ report_of message
