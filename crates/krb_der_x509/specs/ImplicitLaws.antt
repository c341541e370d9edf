-- An implicit tag takes the place of a primitive type's tag.
use Rattle.std.proofs.Common.{◌≡◌, ℕ, List, sym, ap, ◌∙◌}
use Rattle.krb_der_core.specs.Tlv.{tlv}
use Rattle.krb_der_core.specs.TlvLaws.{tlv_same}
use Rattle.krb_der_core.specs.declared.error.Asn1DerError.{Asn1DerError}
use Rattle.krb_der_core.specs.Encoding.{OneValue}
use Rattle.krb_der_core.specs.Errors.{ErrorLaws, TaggedError}
use Rattle.krb_der_core.specs.ErrorLaws.{tagged_laws}

pub retagged_one_value : {A : Type 0} (t s : ℕ) (is_value : A → Type 0) (enc inner : A → List ℕ) → OneValue is_value enc → OneValue (λ v. is_value v × (enc v ≡ tlv s (inner v))) (λ v. tlv t (inner v))
retagged_one_value t s is_value enc inner one v w hv hw e = one v w hv.0 hw.0 (hv.1 ∙ ap (λ (c : List ℕ). tlv s c) (tlv_same t t (inner v) (inner w) e) ∙ sym hw.1)

pub retagged_error_laws : {A : Type 0} (t s : ℕ) (is_value : A → Type 0) (enc inner : A → List ℕ) (error : ℕ → List ℕ → Asn1DerError → Type 0) → ErrorLaws is_value enc error → ErrorLaws (λ v. is_value v × (enc v ≡ tlv s (inner v))) (λ v. tlv t (inner v)) (TaggedError t (error s))
retagged_error_laws t s is_value enc inner error laws = tagged_laws t (λ v. is_value v × (enc v ≡ tlv s (inner v))) inner (error s) (record {
  no_value = λ content e lt f v hv q. laws.no_value s content e lt f v hv.0 (ap (λ (c : List ℕ). tlv s c) q ∙ sym hv.1);
  one_error = λ content e d lt f g. laws.one_error s content e d lt f g;
})
