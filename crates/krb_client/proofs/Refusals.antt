-- What octets grant, and why they grant nothing, from what is known at each rule.
use Rattle.std.proofs.Common.{◌≡◌, ℕ, ℤ, Bool, List, refl, subst, inr}
use Rattle.std.proofs.lemmas.Result.{IfErr-weaker}
use Rattle.std.specs.Prelude.{◌≢◌, IfErr, IfOk, Result}
use Rattle.krb_crypto.specs.declared.seal.error.PartError.TheVariants as half
use Rattle.krb_der_core.specs.declared.der.DerEncode.{Ghosts as EncodingOf}
use Rattle.krb_der_core.specs.declared.error.Asn1DerError.{Asn1DerError}
use Rattle.krb_der_core.specs.declared.error.Asn1DerError.TheVariants as der
use Rattle.krb_messages.specs.declared.messages.replies.EncKdcRepPart.{EncKdcRepPart}
use Rattle.krb_messages.specs.declared.messages.replies.KdcRep.{KdcRep}
use Rattle.krb_crypto.specs.Suites.{etype}
use Rattle.krb_client_rules.specs.PartRules.{IsNoAnswer}
use Rattle.krb_client_rules.specs.ReplyRules.{IsExpected}
use Rattle.krb_client_rules.specs.declared.asked.Asked.{Asked}
use Rattle.krb_client_rules.specs.declared.asked.Clock.{Clock}
use Rattle.krb_client_rules.specs.declared.key.Key.{Key}
use Rattle.krb_client_rules.specs.declared.mismatch.Mismatch.{Mismatch}
use Rattle.krb_client.specs.Granted.{Form, IsFirstRefused, IsGranted, IsNotGranted, as_form, tgs_form, tgs_usage}
use Rattle.krb_client.specs.Messages.{IsMessage}
use Rattle.krb_client.specs.Opened.{IsOpened}
use Rattle.krb_client.specs.declared.replies.error.ReplyError.{ReplyError}
use Rattle.krb_client.specs.declared.replies.error.ReplyError.TheVariants as errors
use Rattle.krb_client.specs.declared.replies.granted.Granted.{Granted}

module _ {M P : Type 0} (f : Form M P) (a : Asked) (c : Clock) (key : Key) (octets : List ℕ) where
  pub no_answer : (m : M) → IsMessage f.message f.numbers f.number octets m → IsExpected a f.initial (etype key.suite) (f.reply m)
      → (p : P) → IsOpened f.part key f.usage (f.reply m).enc_part.cipher p → (r : Mismatch) → IsNoAnswer a c (f.content p) r
      → IsNotGranted f a c key octets (errors.Mismatch r)
  no_answer m is expected p opened r broken = inr (m, is, inr (expected, inr (p, opened, (r, refl, broken))))

-- an AS-REP whose part is no part of the first tag, and grants nothing under the other
pub other_refused : (message : EncodingOf KdcRep) (part other : EncodingOf EncKdcRepPart) (a : Asked) (c : Clock) (key : Key) (octets : List ℕ)
    (r : Result Granted ReplyError) (e : ReplyError) → ((why : Asn1DerError) × (e ≡ errors.Opening (half.Der why)) × (why ≢ der.OutOfMemory))
    → IsNotGranted (as_form message part) a c key octets e → IfErr r (IsNotGranted (as_form message other) a c key octets)
    → IfErr r (IsFirstRefused message part other a c key octets)
other_refused message part other a c key octets r e (why, is, told) not h =
    let first = subst (λ (x : ReplyError). IsNotGranted (as_form message part) a c key octets x) is not in
    IfErr-weaker r (IsNotGranted (as_form message other) a c key octets) (IsFirstRefused message part other a c key octets)
    (λ x refused. inr (why, told, first, refused)) h

-- a TGS-REP under the key that the request names
module _ (message : EncodingOf KdcRep) (part : EncodingOf EncKdcRepPart) (a : Asked) (c : Clock) (key : Key) (octets : List ℕ)
    (is_subkey : Bool) (usage : ℤ) (same : usage ≡ tgs_usage is_subkey) (r : Result Granted ReplyError) where
  pub tgs_granted : IfOk r (IsGranted (tgs_form message part usage) a c key octets) → IfOk r (IsGranted (tgs_form message part (tgs_usage is_subkey)) a c key octets)
  tgs_granted h = subst (λ (u : ℤ). IfOk r (IsGranted (tgs_form message part u) a c key octets)) same h

  pub tgs_refused : IfErr r (IsNotGranted (tgs_form message part usage) a c key octets)
      → IfErr r (IsNotGranted (tgs_form message part (tgs_usage is_subkey)) a c key octets)
  tgs_refused h = subst (λ (u : ℤ). IfErr r (IsNotGranted (tgs_form message part u) a c key octets)) same h
