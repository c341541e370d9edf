-- The third leg of DCE style (MS-KILE, 3.4.5.1), by a status.
use Rattle.std.specs.Prelude.{◌≡◌, ◌⊎◌, ℕ, pos, List}
use Rattle.krb_accept.specs.ThirdLeg.{IsFromClient, IsNotFromClient}
use Rattle.krb_accept.specs.declared.third_leg.ThirdLegError.{ThirdLegError}
use Rattle.krb_accept.specs.declared.third_leg.ThirdLegError.TheVariants as errors
use Rattle.krb_der_core.specs.declared.der.DerEncode.{Ghosts as EncodingOf}
use Rattle.krb_enc_parts.specs.declared.data_types.authenticators.EncApRepPartInner.{EncApRepPartInner}
use Rattle.krb_messages.specs.declared.messages.application.ApRepInner.{ApRepInner}
use Rattle.krb_types.specs.declared.data_types.encryption.EncryptionKey.{EncryptionKey}
use Rattle.krb_c_calls.specs.Statuses.{refusal_status}
use Rattle.krb_c_calls.specs.declared.call_error.CallError.{CallError}
use Rattle.krb_c_calls.specs.declared.call_error.CallError.TheVariants as refusals
use Rattle.krb_c_accept.specs.declared.confirming.ConfirmAsked.{ConfirmAsked}

-- the key with this encryption type and these octets (RFC 4120, 5.2.9)
abbrev pub key_of : ℕ → List ℕ → EncryptionKey
key_of etype octets = record { key_type = pos etype; key_value = octets }

-- the refusal by a rule that is broken
abbrev pub third_leg_refusal : ThirdLegError → CallError
third_leg_refusal errors.NotReply = refusals.Invalid
third_leg_refusal errors.Reflected = refusals.Direction
third_leg_refusal errors.Part = refusals.Integrity
third_leg_refusal errors.Time = refusals.Never
third_leg_refusal errors.SequenceNumber = refusals.NotAccepted
third_leg_refusal errors.OutOfMemory = refusals.Memory

-- what a call is asked: the encryption type and the octets of the session key, the service's own AP-REP, its sequence number, and the client's message
pub record ConfirmInputs : Type 0 where
  pub etype : ℕ
  pub session_key : List ℕ
  pub own_reply : List ℕ
  pub sequence_number : ℕ
  pub message : List ℕ

abbrev pub confirm_inputs : ℕ → List ℕ → List ℕ → ℕ → List ℕ → ConfirmInputs
confirm_inputs etype session_key own_reply sequence_number message = record {
  etype = etype;
  session_key = session_key;
  own_reply = own_reply;
  sequence_number = sequence_number;
  message = message;
}

abbrev pub confirm_inputs_of : ConfirmAsked → ConfirmInputs
confirm_inputs_of a = confirm_inputs a.etype a.session_key.now a.own_reply.now a.sequence_number a.message.now

module _ (ap_rep : EncodingOf ApRepInner) (part : EncodingOf EncApRepPartInner) (i : ConfirmInputs) where
  -- 0: the message is the third leg; else the status of the first rule that is broken
  abbrev pub IsConfirmation : ℕ → Type 0
  IsConfirmation status =
      ((status ≡ 0) × IsFromClient ap_rep part (key_of i.etype i.session_key) i.own_reply (pos i.sequence_number) i.message)
      ⊎ ((e : ThirdLegError) × (status ≡ refusal_status (third_leg_refusal e))
      × IsNotFromClient ap_rep part (key_of i.etype i.session_key) i.own_reply (pos i.sequence_number) i.message e)
