-- Messages, from what is known of their encodings and of their numbers.
use Rattle.std.proofs.Common.{◌≡◌, ◌≢◌, ◌⊎◌, ℕ, ℤ, pos, List, inl, inr, sym, subst, ◌∙◌}
use Rattle.krb_der_core.specs.declared.der.DerEncode.{Ghosts as EncodingOf}
use Rattle.krb_der_core.specs.declared.error.Asn1DerError.{Asn1DerError}
use Rattle.krb_der_core.specs.declared.error.Asn1DerError.TheVariants as der
use Rattle.krb_client.specs.declared.replies.error.ReplyError.{ReplyError}
use Rattle.krb_client.specs.declared.replies.error.ReplyError.TheVariants as errors
use Rattle.krb_der.specs.Whole.{Encodes, IsNotRead}
use Rattle.krb_client.specs.Messages.{IsNoMessage, Numbers}

-- the error of the octets
pub octets_refused : {A : Type 0} (t : EncodingOf A) (numbers : Numbers A) (number : ℕ) (octets : List ℕ) (e : ReplyError) (why : Asn1DerError) → e ≡ errors.Message why
    → ((why ≡ der.OutOfMemory) ⊎ IsNotRead t octets why) → IsNoMessage t numbers number octets e
octets_refused t numbers number octets e why is none = subst (IsNoMessage t numbers number octets) (sym is) none

-- the error of the numbers
pub numbers_refused : {A : Type 0} (t : EncodingOf A) (numbers : Numbers A) (number : ℕ) (octets : List ℕ) (v : A) → Encodes t octets v → (e : ReplyError) (pvno msg_type : ℤ)
    → pvno ≡ numbers.pvno v → msg_type ≡ numbers.msg_type v
    → (((e ≡ errors.Pvno) × (pvno ≢ pos 5)) ⊎ ((e ≡ errors.MsgType) × (pvno ≡ pos 5) × (msg_type ≢ pos number)))
    → IsNoMessage t numbers number octets e
numbers_refused t numbers number octets v encodes e pvno msg_type same like (inl (is, other)) =
    subst (IsNoMessage t numbers number octets) (sym is) (v, encodes, λ five. other (same ∙ five))
numbers_refused t numbers number octets v encodes e pvno msg_type same like (inr (is, version, other)) =
    subst (IsNoMessage t numbers number octets) (sym is) (v, encodes, sym same ∙ version, λ right. other (like ∙ right))
