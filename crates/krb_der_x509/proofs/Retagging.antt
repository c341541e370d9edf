-- One tag in place of another.
use Rattle.std.proofs.Common.{◌≡◌, ℕ, ◌<◌, List, ◌++◌, length, slice_set, sym, ap, ◌∙◌, arith}
use Rattle.std.proofs.lemmas.List.{length-append, set_at}
use Rattle.krb_der_core.specs.Tlv.{len, tlv}
use Rattle.krb_der_core.specs.TlvLaws.{tlv_same}
use Rattle.krb_der_core.specs.Reading.{RejectsAll}
use Rattle.krb_der_core.specs.declared.error.Asn1DerError.{Asn1DerError}
use Rattle.krb_der_core.proofs.Rejections.{rejects_other}

pub retagged_rejected : {A : Type 0} (t s : ℕ) (is_value : A → Type 0) (enc inner : A → List ℕ) (c : List ℕ) (e : Asn1DerError) → RejectsAll is_value enc (tlv s c) e → RejectsAll (λ v. is_value v × (enc v ≡ tlv s (inner v))) (λ v. tlv t (inner v)) (tlv t c) e
retagged_rejected t s is_value enc inner c e r = rejects_other is_value enc (λ v. is_value v × (enc v ≡ tlv s (inner v))) (λ v. tlv t (inner v)) (tlv s c) (tlv t c) e
    (λ none v hv k. none v hv.0 (ap (λ (l : List ℕ). tlv s l) (tlv_same t t c (inner v) k) ∙ sym hv.1)) r

pub retagged_found : (t s : ℕ) (c d e : List ℕ) → tlv s c ≡ e → e ≡ tlv s d → tlv t c ≡ tlv t d
retagged_found t s c d e f g = ap (λ (l : List ℕ). tlv t l) (tlv_same s s c d (f ∙ g))

-- another tag in the place of the first
pub retagged : (out e c new : List ℕ) (start t s : ℕ) → start ≡ length out → e ≡ tlv s c → new ≡ slice_set (out ++ e) start t → new ≡ out ++ tlv t c
unfolding tlv
retagged out e c new start t s same f g = rw (g, f) (set_at out s (len (length c) ++ c) t start (sym same))

pub retagged_room : (out e c : List ℕ) (start s : ℕ) → start ≡ length out → e ≡ tlv s c → start < length (out ++ e)
unfolding tlv
retagged_room out e c start s same f = omega (arith, same, length-append out e, ap length f)
