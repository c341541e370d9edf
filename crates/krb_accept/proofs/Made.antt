-- What was made of its parts.
use Rattle.std.proofs.Common.{◌≡◌, ℕ, ℤ, pos, List, Option, subst, ap, ◌∙◌}
use Rattle.krb_accept_rules.specs.declared.accepted.Accepted.{Accepted}
use Rattle.krb_crypto_message.specs.Sealing.{IsTheOne}
use Rattle.krb_crypto.specs.BySuite.{IsSealed}
use Rattle.krb_crypto.specs.Suites.{etype}
use Rattle.krb_crypto.specs.declared.cipher_suite.CipherSuite.{CipherSuite}
use Rattle.krb_der_core.specs.declared.der.DerEncode.{Ghosts as EncodingOf}
use Rattle.krb_messages.specs.declared.messages.application.ApRepInner.{ApRepInner}
use Rattle.krb_enc_parts.specs.declared.data_types.authenticators.EncApRepPartInner.{EncApRepPartInner}
use Rattle.krb_types.specs.declared.data_types.encryption.EncryptionKey.{EncryptionKey}
use Rattle.krb_accept.specs.Replies.{IsReply, message_of, part_of}

pub made : (part : EncodingOf EncApRepPartInner) (ap_rep : EncodingOf ApRepInner) (a : Accepted) (confounder : List ℕ) (subkey : Option EncryptionKey) (number : Option ℤ) (octets : List ℕ)
    (suite : CipherSuite) (key cipher : List ℕ) (v : EncApRepPartInner) (m : ApRepInner)
    → a.ticket.key.key_type ≡ pos (etype suite) → key ≡ a.ticket.key.key_value → v ≡ part_of a subkey number
    → IsTheOne (IsSealed suite key (pos 12) confounder (part.enc v)) cipher → m ≡ message_of (pos (etype suite)) cipher → octets ≡ ap_rep.enc m
    → IsReply part ap_rep a confounder subkey number octets
made part ap_rep a confounder subkey number octets suite key cipher v m of_suite is_key is_part seals is_message encodes = record {
  suite = suite;
  cipher = cipher;
  of_suite = of_suite;
  seals = subst (λ (k : List ℕ). IsTheOne (IsSealed suite k (pos 12) confounder (part.enc (part_of a subkey number))) cipher) is_key
      (subst (λ (x : EncApRepPartInner). IsTheOne (IsSealed suite key (pos 12) confounder (part.enc x)) cipher) is_part seals);
  encodes = encodes ∙ ap ap_rep.enc is_message;
}
