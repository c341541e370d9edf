-- Messages by their kind, from what is known of their encodings and of their numbers.
use Rattle.std.proofs.Common.{◌≡◌, ◌≢◌, ◌⊎◌, ℕ, ℤ, pos, List, refl, inl, inr, sym, subst, ◌∙◌}
use Rattle.krb_der_core.specs.declared.der.DerEncode.{Ghosts as EncodingOf}
use Rattle.krb_kdc_proxy.specs.declared.error.ProxyError.{ProxyError}
use Rattle.krb_kdc_proxy.specs.declared.error.ProxyError.TheVariants as errors
use Rattle.krb_kdc_proxy.specs.declared.kind.MessageKind.{MessageKind}
use Rattle.krb_der.specs.Whole.{Encodes}
use Rattle.krb_kdc_proxy.specs.Messages.{IsNoMessage, Numbers, OrMemory, number_of}

-- the error of the numbers
pub numbers_refused : {A : Type 0} (t : EncodingOf A) (numbers : Numbers A) (kind : MessageKind) (octets : List ℕ) (v : A) → Encodes t octets v → (e : ProxyError) (pvno msg_type : ℤ)
    → pvno ≡ numbers.pvno v → msg_type ≡ numbers.msg_type v
    → (((e ≡ errors.Pvno kind) × (pvno ≢ pos 5)) ⊎ ((e ≡ errors.MsgType kind) × (pvno ≡ pos 5) × (msg_type ≢ pos (number_of kind))))
    → OrMemory (IsNoMessage t numbers kind octets) e
numbers_refused t numbers kind octets v encodes e pvno msg_type same like (inl (is, other)) =
    inr (subst (IsNoMessage t numbers kind octets) (sym is) (refl, (v, encodes, λ five. other (same ∙ five))))
numbers_refused t numbers kind octets v encodes e pvno msg_type same like (inr (is, version, other)) =
    inr (subst (IsNoMessage t numbers kind octets) (sym is) (refl, (v, encodes, sym same ∙ version, λ right. other (like ∙ right))))
