-- Replies of a KDC that grant a ticket (RFC 4120, 3.1.5 and 3.3.4).
use Rattle.std.specs.Prelude.{◌≡◌, ◌≢◌, ◌⊎◌, ℕ, ℤ, pos, List, Bool, true, false, if◌then◌else◌}
use Rattle.krb_crypto.specs.Suites.{etype}
use Rattle.krb_crypto.specs.declared.seal.error.PartError.TheVariants as half
use Rattle.krb_der_core.specs.declared.der.DerEncode.{Ghosts as EncodingOf}
use Rattle.krb_der_core.specs.declared.error.Asn1DerError.{Asn1DerError}
use Rattle.krb_der_core.specs.declared.error.Asn1DerError.TheVariants as der
use Rattle.krb_messages.specs.declared.messages.replies.EncKdcRepPart.{EncKdcRepPart}
use Rattle.krb_messages.specs.declared.messages.replies.KdcRep.{KdcRep}
use Rattle.krb_client_rules.specs.PartRules.{Answers, IsNoAnswer}
use Rattle.krb_client_rules.specs.ReplyRules.{IsExpected, IsUnexpected}
use Rattle.krb_client_rules.specs.declared.asked.Asked.{Asked}
use Rattle.krb_client_rules.specs.declared.asked.Clock.{Clock}
use Rattle.krb_client_rules.specs.declared.key.Key.{Key}
use Rattle.krb_client_rules.specs.declared.mismatch.Mismatch.{Mismatch}
use Rattle.krb_client.specs.Messages.{IsMessage, IsNoMessage, Numbers, reply_numbers}
use Rattle.krb_client.specs.Opened.{IsNotOpened, IsOpened}
use Rattle.krb_client.specs.declared.replies.error.ReplyError.{ReplyError}
use Rattle.krb_client.specs.declared.replies.error.ReplyError.TheVariants as errors
use Rattle.krb_client.specs.declared.replies.granted.Granted.{Granted}

-- How a kind of reply is read: the encodings of the message and of its part, the message's numbers, its msg-type, the key usage of its part,
-- and whether it is an AS-REP.
pub record Form (M P : Type 0) : Type 1 where
  pub message : EncodingOf M
  pub numbers : Numbers M
  pub reply : M → KdcRep
  pub part : EncodingOf P
  pub content : P → EncKdcRepPart
  pub number : ℕ
  pub usage : ℤ
  pub initial : Bool

abbrev pub form : {M P : Type 0} → EncodingOf M → Numbers M → (M → KdcRep) → EncodingOf P → (P → EncKdcRepPart) → ℕ → ℤ → Bool → Form M P
form message numbers reply part content number usage initial = record {
  message = message;
  numbers = numbers;
  reply = reply;
  part = part;
  content = content;
  number = number;
  usage = usage;
  initial = initial;
}

-- an AS-REP: type 11, key usage 3 (5.4.2 and 7.5.1)
abbrev pub as_form : EncodingOf KdcRep → EncodingOf EncKdcRepPart → Form KdcRep EncKdcRepPart
as_form message part = form message reply_numbers (λ v. v) part (λ v. v) 11 (pos 3) true

-- a TGS-REP: type 13, and key usage 8 under a session key, or 9 under a subkey
abbrev pub tgs_form : EncodingOf KdcRep → EncodingOf EncKdcRepPart → ℤ → Form KdcRep EncKdcRepPart
tgs_form message part usage = form message reply_numbers (λ v. v) part (λ v. v) 13 usage false

abbrev pub tgs_usage : Bool → ℤ
tgs_usage is_subkey = (if is_subkey then pos 9 else pos 8)

-- The octets are the one encoding of a reply that is for the client, with a ticket for the server, and whose part opens under this key, for this
-- usage and some confounder, to the encoding of a part that answers the request. The ticket and the part are those of the reply.
pub record IsGranted {M P : Type 0} (f : Form M P) (a : Asked) (c : Clock) (key : Key) (octets : List ℕ) (g : Granted) : Type 0 where
  pub message : M
  pub is_message : IsMessage f.message f.numbers f.number octets message
  pub expected : IsExpected a f.initial (etype key.suite) (f.reply message)
  pub part : P
  pub opened : IsOpened f.part key f.usage (f.reply message).enc_part.cipher part
  pub answers : Answers a c (f.content part)
  pub ticket_is : g.ticket ≡ (f.reply message).ticket
  pub part_is : g.part ≡ f.content part

-- the error is that of a rule that is broken
abbrev pub IsRule : (Mismatch → Type 0) → ReplyError → Type 0
IsRule broken error = (rule : Mismatch) × (error ≡ errors.Mismatch rule) × broken rule

-- Why the octets grant nothing: they are no message; or it is not expected; or its part is not opened; or the part is no answer.
abbrev pub IsNotGranted : {M P : Type 0} → Form M P → Asked → Clock → Key → List ℕ → ReplyError → Type 0
IsNotGranted {M} {P} f a c key octets error =
    IsNoMessage f.message f.numbers f.number octets error
    ⊎ ((message : M) × IsMessage f.message f.numbers f.number octets message
    × (IsRule (IsUnexpected a f.initial (etype key.suite) (f.reply message)) error
    ⊎ (IsExpected a f.initial (etype key.suite) (f.reply message)
    × (IsNotOpened f.part key f.usage (f.reply message).enc_part.cipher error
    ⊎ ((part : P) × IsOpened f.part key f.usage (f.reply message).enc_part.cipher part × IsRule (IsNoAnswer a c (f.content part)) error)))))

-- An AS-REP whose part has its own tag, or that of a TGS-REP's, as KDCs send it (5.4.2, the note on EncASRepPart).
abbrev pub IsFirstGranted : EncodingOf KdcRep → EncodingOf EncKdcRepPart → EncodingOf EncKdcRepPart → Asked → Clock → Key → List ℕ → Granted → Type 0
IsFirstGranted message part other a c key octets g =
    IsGranted (as_form message part) a c key octets g ⊎ IsGranted (as_form message other) a c key octets g

-- the error is not that what was opened is no part of the tag; an allocation failure does not tell
abbrev pub IsNotOfTag : ReplyError → Type 0
IsNotOfTag (errors.Opening (half.Der why)) = why ≡ der.OutOfMemory
IsNotOfTag other = Unit {0}

-- It grants nothing under its own tag, and what was opened is not at fault; or what was opened is no part of this tag, and it grants nothing under the other.
abbrev pub IsFirstRefused : EncodingOf KdcRep → EncodingOf EncKdcRepPart → EncodingOf EncKdcRepPart → Asked → Clock → Key → List ℕ → ReplyError → Type 0
IsFirstRefused message part other a c key octets error =
    (IsNotGranted (as_form message part) a c key octets error × IsNotOfTag error)
    ⊎ ((why : Asn1DerError) × (why ≢ der.OutOfMemory) × IsNotGranted (as_form message part) a c key octets (errors.Opening (half.Der why))
    × IsNotGranted (as_form message other) a c key octets error)
