-- A token's tag in the place of a SEQUENCE's.
use Rattle.std.proofs.Common.{◌≡◌, ℕ, List, ◌++◌, length, slice_set, sym, ap, ◌∙◌}
use Rattle.krb_der_core.specs.Tlv.{tlv}
use Rattle.krb_der_core.specs.TlvLaws.{tlv_same}
use Rattle.krb_der_core.specs.Encoding.{IsSequence}
use Rattle.krb_der_core.specs.Reading.{RejectsAll}
use Rattle.krb_der_core.specs.declared.error.Asn1DerError.{Asn1DerError}
use Rattle.krb_der_core.proofs.Rejections.{rejects_other}
use Rattle.krb_der_x509.proofs.Retagging.{retagged}
use Rattle.krb_gss_tokens.specs.Token.{in_token, token}
use Rattle.krb_gss_tokens.specs.TokenLaws.{token_is}

-- a token of this content is of a SEQUENCE of this content
pub sequence_is : (c b : List ℕ) → IsSequence b → token c ≡ in_token b → tlv 48 c ≡ b
sequence_is c b s e = ap (λ (l : List ℕ). tlv 48 l) (tlv_same 96 96 c s.0 (e ∙ token_is b s.0 s.1)) ∙ sym s.1

pub token_found : (c b : List ℕ) → tlv 48 c ≡ b → token c ≡ in_token b
token_found c b e = sym (token_is b c (sym e))

pub token_rejected : {A : Type 0} (is_value : A → Type 0) (enc : A → List ℕ) (c : List ℕ) (e : Asn1DerError) → RejectsAll is_value enc (tlv 48 c) e → RejectsAll (λ v. is_value v × IsSequence (enc v)) (λ v. in_token (enc v)) (token c) e
token_rejected is_value enc c e r = rejects_other is_value enc (λ v. is_value v × IsSequence (enc v)) (λ v. in_token (enc v)) (tlv 48 c) (token c) e
    (λ none v hv k. none v hv.0 (sequence_is c (enc v) hv.1 k)) r

pub token_written : (out b new : List ℕ) (start : ℕ) → start ≡ length out → IsSequence b → new ≡ slice_set (out ++ b) start 96 → new ≡ out ++ in_token b
token_written out b new start same s e = retagged out b s.0 new start 96 48 same s.1 e ∙ ap (λ (l : List ℕ). out ++ l) (sym (token_is b s.0 s.1))
