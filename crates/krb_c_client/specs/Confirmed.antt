-- Whether a service answers the request (RFC 4120, 3.2.5).
use Rattle.std.specs.Prelude.{◌≡◌, ℕ, ℤ, List, Result, Ok, Err, Vec}
use Rattle.std.specs.declared.alloc.Global.{Global}
use Rattle.krb_client.specs.Confirmed.{IsConfirmed, IsNotConfirmed, ap_rep_form}
use Rattle.krb_client.specs.declared.replies.error.ReplyError.{ReplyError}
use Rattle.krb_client_rules.specs.declared.confirmed.Sent.{Sent}
use Rattle.krb_client_rules.specs.declared.key.Key.{Key}
use Rattle.krb_der_core.specs.declared.der.DerEncode.{Ghosts as EncodingOf}
use Rattle.krb_enc_parts.specs.declared.data_types.authenticators.EncApRepPartInner.{EncApRepPartInner}
use Rattle.krb_messages.specs.declared.messages.application.ApRepInner.{ApRepInner}
use Rattle.krb_c_calls.specs.Numbers.{etype_number}
use Rattle.krb_c_calls.specs.declared.call_error.CallError.{CallError}
use Rattle.krb_c_calls.specs.declared.call_error.CallError.TheVariants as calls
use Rattle.krb_c_client.specs.Refusals.{reply_refusal}
use Rattle.krb_c_client.specs.Suites.{IsNoSuite}
use Rattle.krb_c_client.specs.Telling.{TellsOctets}
use Rattle.krb_c_client.specs.declared.application_reply.ReplyAsked.{ReplyAsked}
use Rattle.krb_c_client.specs.declared.refusal.Refusal.{Refusal}
use Rattle.krb_c_client.specs.declared.refusal.Refusal.TheVariants as refusals

-- the session key, the time that was sent, and what the service sent
pub record ReplyInputs : Type 0 where
  pub session_etype : ℤ
  pub session_key : List ℕ
  pub seconds : ℤ
  pub microseconds : ℕ
  pub reply : List ℕ

abbrev pub reply_inputs : ℤ → List ℕ → ℤ → ℕ → List ℕ → ReplyInputs
reply_inputs session_etype session_key seconds microseconds reply = record {
  session_etype = session_etype;
  session_key = session_key;
  seconds = seconds;
  microseconds = microseconds;
  reply = reply;
}

abbrev pub reply_inputs_of : ReplyAsked → ReplyInputs
reply_inputs_of a = reply_inputs a.session_etype a.session_key.now a.seconds a.microseconds a.reply.now

pub record IsSessionKey (i : ReplyInputs) (k : Key) : Type 0 where
  pub suite_is : etype_number k.suite ≡ i.session_etype
  pub octets_are : k.octets.items ≡ i.session_key

abbrev pub sent_of : ReplyInputs → Sent
sent_of i = record { seconds = i.seconds; microseconds = i.microseconds }

module _ (replies : EncodingOf ApRepInner) (parts : EncodingOf EncApRepPartInner) (i : ReplyInputs) where
  -- the reply opens under the session key to a part with this time, whose encoding the octets are (5.5.2)
  pub record IsConfirmedPart (octets : List ℕ) : Type 0 where
    pub key : Key
    pub is_key : IsSessionKey i key
    pub part : EncApRepPartInner
    pub is_confirmed : IsConfirmed (ap_rep_form replies parts) (sent_of i) key i.reply part
    pub octets_are : octets ≡ parts.enc part

  -- an allocation failed; the encryption type has no suite; or the reply breaks a rule
  pub data IsNotConfirmedPart (r : Refusal) : Type 0 where
    no_memory : r ≡ refusals.Failed calls.Memory → IsNotConfirmedPart r
    no_suite : (e : CallError) → IsNoSuite i.session_etype e → r ≡ refusals.Failed e → IsNotConfirmedPart r
    not_confirmed : (key : Key) (error : ReplyError) → IsSessionKey i key → IsNotConfirmed (ap_rep_form replies parts) (sent_of i) key i.reply error
        → r ≡ reply_refusal error → IsNotConfirmedPart r

  abbrev pub IsReplyOutcome : Result (Vec ℕ Global) Refusal → Type 0
  IsReplyOutcome (Ok octets) = IsConfirmedPart octets.items
  IsReplyOutcome (Err r) = IsNotConfirmedPart r

  pub record IsReplyCall (rule : ℕ) (out_before out_after : List ℕ) (size status : ℕ) : Type 0 where
    pub outcome : Result (Vec ℕ Global) Refusal
    pub is_outcome : IsReplyOutcome outcome
    pub tells : TellsOctets outcome rule out_before out_after size status
