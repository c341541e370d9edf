-- The AP-REP (RFC 4120, 3.2.4 and 5.5.2).
use Rattle.std.specs.Prelude.{◌≡◌, ◌≢◌, ◌⊎◌, ℕ, ℤ, pos, List, length, Option, None}
use Rattle.krb_accept_rules.specs.declared.accepted.Accepted.{Accepted}
use Rattle.krb_crypto_message.specs.Sealing.{IsTheOne}
use Rattle.krb_crypto.specs.BySuite.{IsSealed, confounder_octets_of, key_octets_of}
use Rattle.krb_crypto.specs.Suites.{etype}
use Rattle.krb_crypto.specs.declared.cipher_suite.CipherSuite.{CipherSuite}
use Rattle.krb_der_core.specs.declared.der.DerEncode.{Ghosts as EncodingOf}
use Rattle.krb_messages.specs.declared.messages.application.ApRepInner.{ApRepInner}
use Rattle.krb_enc_parts.specs.declared.data_types.authenticators.EncApRepPartInner.{EncApRepPartInner}
use Rattle.krb_types.specs.declared.data_types.encryption.EncryptionKey.{EncryptionKey}
use Rattle.krb_accept.specs.Frame.{in_frame}
use Rattle.krb_accept.specs.declared.frame.InnerToken.TheVariants as inner
use Rattle.krb_accept.specs.declared.ap_rep.ReplyError.{ReplyError}
use Rattle.krb_accept.specs.declared.ap_rep.ReplyError.TheVariants as errors

-- what is sealed: the client's time, the key and the number of the first message that the service chose
abbrev pub part_of : Accepted → Option EncryptionKey → Option ℤ → EncApRepPartInner
part_of a subkey number = record { ctime = a.ctime; cusec = a.cusec; subkey = record { 0 = subkey }; seq_number = record { 0 = number } }

-- the message around it: version 5, type 15, no version of the key
abbrev pub message_of : ℤ → List ℕ → ApRepInner
message_of number cipher = record {
  pvno = pos 5;
  msg_type = pos 15;
  enc_part = record { etype = number; kvno = record { 0 = None }; cipher = cipher };
}

-- The octets are the encoding of the message whose part is what the suite of the session key makes of the encoding of the part, under this key, for key usage 12
-- and this confounder.
pub record IsReply (part : EncodingOf EncApRepPartInner) (ap_rep : EncodingOf ApRepInner) (a : Accepted) (confounder : List ℕ) (subkey : Option EncryptionKey) (number : Option ℤ) (octets : List ℕ) : Type 0 where
  pub suite : CipherSuite
  pub cipher : List ℕ
  pub of_suite : a.ticket.key.key_type ≡ pos (etype suite)
  pub seals : IsTheOne (IsSealed suite a.ticket.key.key_value (pos 12) confounder (part.enc (part_of a subkey number))) cipher
  pub encodes : octets ≡ ap_rep.enc (message_of (pos (etype suite)) cipher)

-- the session key is of no suite; or the confounder is not of the suite's length; or the key is not
abbrev pub IsNoReply : Accepted → List ℕ → ReplyError → Type 0
IsNoReply a confounder errors.Key =
    ((suite : CipherSuite) → a.ticket.key.key_type ≡ pos (etype suite) → ⊥)
    ⊎ ((suite : CipherSuite) × (a.ticket.key.key_type ≡ pos (etype suite)) × (length confounder ≡ confounder_octets_of suite)
    × (length a.ticket.key.key_value ≢ key_octets_of suite))
IsNoReply a confounder errors.Confounder =
    (suite : CipherSuite) × (a.ticket.key.key_type ≡ pos (etype suite)) × (length confounder ≢ confounder_octets_of suite)
IsNoReply a confounder errors.OutOfMemory = Unit {0}

-- The octets are the frame around such a message, with the token id 02 00 (RFC 4121, 4.1.2).
abbrev pub IsReplyToken : EncodingOf EncApRepPartInner → EncodingOf ApRepInner → Accepted → List ℕ → Option EncryptionKey → Option ℤ → List ℕ → Type 0
IsReplyToken part ap_rep a confounder subkey number token =
    (octets : List ℕ) × IsReply part ap_rep a confounder subkey number octets × (token ≡ in_frame inner.ApRep octets)
