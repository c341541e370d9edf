-- What is said of the part of a third leg, said of the message.
use Rattle.std.proofs.Common.{◌≡◌, ◌∙◌, inl, inr, refl, ap, subst, ℕ, ℤ, pos, List, Bool, true, false, MatchBool, Result, Ok, Err, Some, IfErr, OnOk}
use Rattle.krb_accept_rules.specs.Values.{HasNone, IsTheValue}
use Rattle.krb_accept_rules.specs.declared.accepted.Accepted.{Accepted}
use Rattle.krb_der_core.specs.declared.der.DerEncode.{Ghosts as EncodingOf}
use Rattle.krb_enc_parts.specs.declared.data_types.authenticators.EncApRepPartInner.{EncApRepPartInner}
use Rattle.krb_messages.specs.declared.messages.application.ApRepInner.{ApRepInner}
use Rattle.krb_types.specs.declared.data_types.encryption.EncryptedData.{EncryptedData}
use Rattle.krb_types.specs.declared.data_types.encryption.EncryptionKey.{EncryptionKey}
use Rattle.krb_accept.specs.Opening.{Encodes}
use Rattle.krb_accept.specs.ThirdLeg.{HasNumbers, HasTime, IsClientReply, IsNoClientReply, IsNoThirdLeg, IsNotAgreed, IsReflected, IsThirdLeg}
use Rattle.krb_accept.specs.WithKey.{IsSealedWith}
use Rattle.krb_accept.specs.declared.third_leg.ThirdLegError.{ThirdLegError}
use Rattle.krb_accept.specs.declared.third_leg.ThirdLegError.TheVariants as errors
use Rattle.krb_accept.proofs.Matching.{err_so}

pub agreed : {A : Type 0} (part : EncodingOf EncApRepPartInner) (a : Accepted) (number : ℤ) (m : ApRepInner) (sealed : EncryptedData) (v : EncApRepPartInner) (r : Result A ThirdLegError)
    → HasNumbers m → sealed ≡ m.enc_part → IsTheValue (IsSealedWith part a.ticket.key (pos 12) sealed) v → OnOk r (HasTime a v × (v.seq_number.0 ≡ Some number))
    → OnOk r (IsThirdLeg part a number m)
agreed part a number m sealed v (Ok x) numbers same the h = record {
  value = v;
  numbers = numbers;
  value_is = subst (λ (x : EncryptedData). IsTheValue (IsSealedWith part a.ticket.key (pos 12) x) v) same the;
  time = h.0;
  number_is = h.1;
}
agreed part a number m sealed v (Err e) numbers same the h = h

pub not_agreed : {A : Type 0} (part : EncodingOf EncApRepPartInner) (a : Accepted) (number : ℤ) (m : ApRepInner) (sealed : EncryptedData) (v : EncApRepPartInner) (r : Result A ThirdLegError)
    → HasNumbers m → sealed ≡ m.enc_part → IsTheValue (IsSealedWith part a.ticket.key (pos 12) sealed) v → IfErr r (IsNotAgreed a number v) → IfErr r (IsNoThirdLeg part a number m)
not_agreed part a number m sealed v r numbers same the h =
    err_so _ _ (λ e n. inr (inr (inr (v, numbers, subst (λ (x : EncryptedData). IsTheValue (IsSealedWith part a.ticket.key (pos 12) x) v) same the, n)))) r h

pub not_opened : (part : EncodingOf EncApRepPartInner) (a : Accepted) (number : ℤ) (m : ApRepInner) (sealed : EncryptedData) → HasNumbers m → sealed ≡ m.enc_part
    → HasNone (IsSealedWith part a.ticket.key (pos 12) sealed) → IsNoThirdLeg part a number m errors.Part
not_opened part a number m sealed numbers same none =
    inr (inr (inl (numbers, refl, subst (λ (x : EncryptedData). HasNone (IsSealedWith part a.ticket.key (pos 12) x)) same none)))

-- the one message of these octets has the same encrypted octets, or not
pub reflected : (ap_rep : EncodingOf ApRepInner) (own : List ℕ) (m o : ApRepInner) (r : Bool) → IsTheValue (Encodes ap_rep own) o
    → MatchBool r (m.enc_part.cipher ≡ o.enc_part.cipher) (m.enc_part.cipher ≡ o.enc_part.cipher → ⊥) → MatchBool r (IsReflected ap_rep own m) (IsReflected ap_rep own m → ⊥)
reflected ap_rep own m o true the is = record { sent = o; encodes = the.holds; same = is }
reflected ap_rep own m o false the differs =
    λ found. differs (found.same ∙ ap (λ (x : ApRepInner). x.enc_part.cipher) (the.only found.sent found.encodes))

module _ (ap_rep : EncodingOf ApRepInner) (part : EncodingOf EncApRepPartInner) (key : EncryptionKey) (own : List ℕ) (number : ℤ) (m : ApRepInner) (sealed : EncryptedData) where
  pub has_number : {A : Type 0} (v : EncApRepPartInner) (r : Result A ThirdLegError) → HasNumbers m → (IsReflected ap_rep own m → ⊥) → sealed ≡ m.enc_part
      → IsTheValue (IsSealedWith part key (pos 12) sealed) v → OnOk r (v.seq_number.0 ≡ Some number) → OnOk r (IsClientReply ap_rep part key own number m)
  has_number v (Ok x) numbers not_own same the h = record {
    value = v;
    numbers = numbers;
    not_own = not_own;
    value_is = subst (λ (x : EncryptedData). IsTheValue (IsSealedWith part key (pos 12) x) v) same the;
    number_is = h;
  }
  has_number v (Err e) numbers not_own same the h = h

  pub has_another : {A : Type 0} (v : EncApRepPartInner) (r : Result A ThirdLegError) → HasNumbers m → (IsReflected ap_rep own m → ⊥) → sealed ≡ m.enc_part
      → IsTheValue (IsSealedWith part key (pos 12) sealed) v → IfErr r (λ e. (e ≡ errors.SequenceNumber) × (v.seq_number.0 ≡ Some number → ⊥))
      → IfErr r (IsNoClientReply ap_rep part key own number m)
  has_another v r numbers not_own same the h =
      err_so _ _
      (λ e n. inr (inr (inr (inr (v, n.0, numbers, not_own, subst (λ (x : EncryptedData). IsTheValue (IsSealedWith part key (pos 12) x) v) same the, n.1))))) r h

  pub unopened : HasNumbers m → (IsReflected ap_rep own m → ⊥) → sealed ≡ m.enc_part → HasNone (IsSealedWith part key (pos 12) sealed)
      → IsNoClientReply ap_rep part key own number m errors.Part
  unopened numbers not_own same none =
      inr (inr (inr (inl (refl, numbers, not_own, subst (λ (x : EncryptedData). HasNone (IsSealedWith part key (pos 12) x)) same none))))
