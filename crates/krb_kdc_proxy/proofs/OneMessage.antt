-- Octets are one message of a kind, or none, and never both.
use Rattle.std.proofs.Common.{◌≡◌, ℕ, ◌+◌, List, ◌∷◌, ◌++◌, length, true, false, refl, sym, ap, ◌∙◌, arith, eqb, eq-eqb}
use Rattle.std.proofs.lemmas.Bool.{eqb-true}
use Rattle.std.specs.Int.{to_be_bytes, w32}
use Rattle.krb_der_core.specs.declared.der.DerEncode.{Ghosts as EncodingOf}
use Rattle.krb_der_core.specs.Tlv.{len, tlv}
use Rattle.krb_der_core.specs.TlvLaws.{same_prefixes}
use Rattle.krb_der.specs.Tags.{HasTag}
use Rattle.krb_kdc_proxy.specs.declared.error.ProxyError.{ProxyError}
use Rattle.krb_kdc_proxy.specs.declared.error.ProxyError.TheVariants as errors
use Rattle.krb_kdc_proxy.specs.declared.kind.MessageKind.{MessageKind}
use Rattle.krb_der.specs.Whole.{Encodes}
use Rattle.krb_kdc_proxy.specs.Messages.{IsMessage, IsNoMessage, Numbers}
use Rattle.krb_kdc_proxy.specs.Prefixed.{IsNotPrefixed, IsPrefixed, prefixed}
use Rattle.krb_kdc_proxy.specs.Requests.{IsTagged}
use Rattle.krb_kdc_proxy.specs.Standing.{StandsPrefixed, kerb_message_path}
use Rattle.krb_message_fields.specs.PathLaws.{one_end}

begins : (tag u : ℕ) (content : List ℕ) → u ≡ tag → IsTagged tag (tlv u content)
unfolding tlv
begins tag u content e = (len (length content) ++ content, ap (λ (x : ℕ). x ∷ (len (length content) ++ content)) e)

pub one_tag : (a b : ℕ) (octets : List ℕ) → IsTagged a octets → IsTagged b octets → a ≡ b
one_tag a b octets s t = let e : a ∷ s.0 ≡ b ∷ t.0 = sym s.1 ∙ t.1 in cc

pub apart : (a b : ℕ) (octets : List ℕ) → eqb a b ≡ false → IsTagged a octets → IsTagged b octets → ⊥
apart a b octets other s t = let e : true ≡ false = sym (eq-eqb a b (one_tag a b octets s t)) ∙ other in cc

module _ {A : Type 0} (t : EncodingOf A) where
  pub one_value : (octets : List ℕ) (v w : A) → Encodes t octets v → Encodes t octets w → v ≡ w
  one_value octets v w e f = t.one_value v w e.0 f.0 (sym e.1 ∙ f.1)

  pub tagged : (tag : ℕ) → HasTag tag t.first → (octets : List ℕ) (v : A) → Encodes t octets v → IsTagged tag octets
  tagged tag has octets v e =
      let element = t.is_element v e.0 in
      let same : element.tag ≡ tag = eqb-true element.tag tag (sym (has element.tag) ∙ element.begins) in
      let b = begins tag element.tag element.content same in
      (b.0, e.1 ∙ element.whole ∙ b.1)

  pub not_both : (numbers : Numbers A) (kind : MessageKind) (octets : List ℕ) (v : A) (error : ProxyError) → IsMessage t numbers kind octets v
      → IsNoMessage t numbers kind octets error → ⊥
  not_both numbers kind octets v errors.TooLarge m n = n
  not_both numbers kind octets v (errors.ProxyMessage e) m n = n
  not_both numbers kind octets v errors.NoLength m n = n
  not_both numbers kind octets v errors.OtherLength m n = n
  not_both numbers kind octets v errors.NoTargetDomain m n = n
  not_both numbers kind octets v errors.OtherKind m n = n
  not_both numbers kind octets v errors.FrameLength m n = n
  not_both numbers kind octets v (errors.Message k why) m n = n.1.none v m.encodes
  not_both numbers kind octets v (errors.Pvno k) m n = n.1.2 (ap numbers.pvno (one_value octets n.1.0 v n.1.1 m.encodes) ∙ m.version)
  not_both numbers kind octets v (errors.MsgType k) m n = n.1.3 (ap numbers.msg_type (one_value octets n.1.0 v n.1.1 m.encodes) ∙ m.is_type)
  not_both numbers kind octets v errors.OutOfMemory m n = n

-- ---- behind lengths

pub one_prefixed : (octets a b : List ℕ) → IsPrefixed octets a → IsPrefixed octets b → a ≡ b
one_prefixed octets a b p q = (same_prefixes (to_be_bytes w32 (length a)) (to_be_bytes w32 (length b)) a b refl (sym p.1 ∙ q.1)).1

-- kerb-message has one place
pub one_offset : (octets a b : List ℕ) (m n : ℕ) → StandsPrefixed a m octets → StandsPrefixed b n octets → m ≡ n
one_offset octets a b m n p q =
    let same = one_end kerb_message_path octets p.start q.start (prefixed a) (prefixed b) p.whole.0 q.whole.0 in
    p.behind ∙ ap (λ (k : ℕ). k + 4) same.0 ∙ sym q.behind

pub prefixed_is : (octets message : List ℕ) (error : ProxyError) → IsPrefixed octets message → IsNotPrefixed octets error → ⊥
prefixed_is octets message errors.TooLarge p n = n
prefixed_is octets message (errors.ProxyMessage e) p n = n
prefixed_is octets message errors.NoLength p n = omega (arith, ap length p.1)
prefixed_is octets message errors.OtherLength p n = n.1 message p
prefixed_is octets message errors.NoTargetDomain p n = n
prefixed_is octets message errors.OtherKind p n = n
prefixed_is octets message errors.FrameLength p n = n
prefixed_is octets message (errors.Message k why) p n = n
prefixed_is octets message (errors.Pvno k) p n = n
prefixed_is octets message (errors.MsgType k) p n = n
prefixed_is octets message errors.OutOfMemory p n = n
