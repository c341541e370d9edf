-- Replies of a server that show that it has the key (RFC 4120, 3.2.4 and 3.2.5).
use Rattle.std.specs.Prelude.{◌≡◌, ◌⊎◌, ℕ, pos, List}
use Rattle.krb_crypto.specs.Suites.{etype}
use Rattle.krb_der_core.specs.declared.der.DerEncode.{Ghosts as EncodingOf}
use Rattle.krb_messages.specs.declared.messages.application.ApRepInner.{ApRepInner}
use Rattle.krb_enc_parts.specs.declared.data_types.authenticators.EncApRepPartInner.{EncApRepPartInner}
use Rattle.krb_client_rules.specs.declared.key.Key.{Key}
use Rattle.krb_client_rules.specs.Times.{HasTime}
use Rattle.krb_client_rules.specs.declared.confirmed.Sent.{Sent}
use Rattle.krb_client_rules.specs.declared.mismatch.Mismatch.TheVariants as rule
use Rattle.krb_client.specs.declared.replies.error.ReplyError.{ReplyError}
use Rattle.krb_client.specs.declared.replies.error.ReplyError.TheVariants as errors
use Rattle.krb_client.specs.Messages.{IsMessage, IsNoMessage, Numbers, ap_rep_numbers}
use Rattle.krb_client.specs.Opened.{IsNotOpened, IsOpened}

-- How an AP-REP is read: the encodings of the message and of its part, and the message's numbers.
pub record ApForm (M P : Type 0) : Type 1 where
  pub message : EncodingOf M
  pub numbers : Numbers M
  pub reply : M → ApRepInner
  pub part : EncodingOf P
  pub content : P → EncApRepPartInner

abbrev pub ap_form : {M P : Type 0} → EncodingOf M → Numbers M → (M → ApRepInner) → EncodingOf P → (P → EncApRepPartInner) → ApForm M P
ap_form message numbers reply part content = record { message = message; numbers = numbers; reply = reply; part = part; content = content }

abbrev pub ap_rep_form : EncodingOf ApRepInner → EncodingOf EncApRepPartInner → ApForm ApRepInner EncApRepPartInner
ap_rep_form message part = ap_form message ap_rep_numbers (λ v. v) part (λ v. v)

-- the part is under the encryption type of this key
abbrev pub IsUnder : Key → ApRepInner → Type 0
IsUnder key m = m.enc_part.etype ≡ pos (etype key.suite)

-- The octets are the one encoding of an AP-REP (type 15) whose part opens under this key, for usage 12 and some confounder, to the encoding of a part that
-- has the time that was sent; and these are its fields.
pub record IsConfirmed {M P : Type 0} (f : ApForm M P) (s : Sent) (key : Key) (octets : List ℕ) (p : EncApRepPartInner) : Type 0 where
  pub message : M
  pub is_message : IsMessage f.message f.numbers 15 octets message
  pub under : IsUnder key (f.reply message)
  pub part : P
  pub opened : IsOpened f.part key (pos 12) (f.reply message).enc_part.cipher part
  pub time : HasTime s (f.content part)
  pub part_is : p ≡ f.content part

-- why they confirm nothing: the first of these that does not hold
abbrev pub IsNotConfirmed : {M P : Type 0} → ApForm M P → Sent → Key → List ℕ → ReplyError → Type 0
IsNotConfirmed {M} {P} f s key octets error =
    IsNoMessage f.message f.numbers 15 octets error
    ⊎ ((message : M) × IsMessage f.message f.numbers 15 octets message
    × (((error ≡ errors.Mismatch rule.EncryptionType) × (IsUnder key (f.reply message) → ⊥))
    ⊎ (IsUnder key (f.reply message)
    × (IsNotOpened f.part key (pos 12) (f.reply message).enc_part.cipher error
    ⊎ ((part : P) × IsOpened f.part key (pos 12) (f.reply message).enc_part.cipher part × (error ≡ errors.Mismatch rule.Time) × (HasTime s (f.content part) → ⊥))))))
