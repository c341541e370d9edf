-- A token's tag takes the place of a SEQUENCE's.
use Rattle.std.proofs.Common.{◌≡◌, ℕ, List, [], ◌++◌, ◌<◌, ◌^◌, eqb, length, refl, sym, ap, ◌∙◌}
use Rattle.krb_der_core.specs.Tlv.{tlv}
use Rattle.krb_der_core.specs.TlvLaws.{tagged_element, tlv_apart, tlv_same}
use Rattle.krb_der_core.specs.Encoding.{IsElement, IsSequence, OneValue}
use Rattle.krb_der_core.specs.declared.error.Asn1DerError.{Asn1DerError}
use Rattle.krb_der_core.specs.Errors.{other_tag, in_content}
use Rattle.krb_der_core.specs.Errors.{ErrorLaws, TaggedError}
use Rattle.krb_gss_tokens.specs.Token.{in_token, token}

-- the content stays
pub token_is : (b c : List ℕ) → b ≡ tlv 48 c → in_token b ≡ token c
unfolding tlv
token_is b c e = ap in_token e

pub token_element : (b : List ℕ) → IsSequence b → IsElement (λ t. eqb t 96) (in_token b)
token_element b s =
    let e = tagged_element 96 s.0 in
    record { tag = e.tag; content = e.content; whole = token_is b s.0 s.1 ∙ e.whole; begins = e.begins }

pub same_sequence : (b c : List ℕ) → IsSequence b → IsSequence c → in_token b ≡ in_token c → b ≡ c
same_sequence b c s t e = s.1 ∙ ap (λ (l : List ℕ). tlv 48 l) (tlv_same 96 96 s.0 t.0 (sym (token_is b s.0 s.1) ∙ e ∙ token_is c t.0 t.1)) ∙ sym t.1

pub token_one_value : {A : Type 0} (is_value : A → Type 0) (enc : A → List ℕ) → OneValue is_value enc → OneValue (λ v. is_value v × IsSequence (enc v)) (λ v. in_token (enc v))
token_one_value is_value enc one v w hv hw e = one v w hv.0 hw.0 (same_sequence (enc v) (enc w) hv.1 hw.1 e)

module _ {A : Type 0} (is_value : A → Type 0) (enc : A → List ℕ) (error : ℕ → List ℕ → Asn1DerError → Type 0) (laws : ErrorLaws is_value enc error) where
  no_token : (t : ℕ) (content : List ℕ) (e : Asn1DerError) → length content < 2 ^ 64 → TaggedError 96 (error 48) t content e → (v : A) → is_value v × IsSequence (enc v) → tlv t content ≡ in_token (enc v) → ⊥
  no_token t content e lt (other_tag other) v hv q = other (tlv_apart t 96 content hv.1.0 [] [] (ap (λ (l : List ℕ). l ++ []) (q ∙ token_is (enc v) hv.1.0 hv.1.1))).tag
  no_token t content e lt (in_content d same f) v hv q =
      let k : content ≡ hv.1.0 = tlv_same t 96 content hv.1.0 (q ∙ token_is (enc v) hv.1.0 hv.1.1) in
      laws.no_value 48 content d lt f v hv.0 (ap (λ (l : List ℕ). tlv 48 l) k ∙ sym hv.1.1)

  one_token : (t : ℕ) (content : List ℕ) (e d : Asn1DerError) → length content < 2 ^ 64 → TaggedError 96 (error 48) t content e → TaggedError 96 (error 48) t content d → e ≡ d
  one_token t content e d lt (other_tag other) (other_tag again) = refl
  one_token t content e d lt (other_tag other) (in_content d2 same g) = absurd (other same)
  one_token t content e d lt (in_content e2 same f) (other_tag other) = absurd (other same)
  one_token t content e d lt (in_content e2 same f) (in_content d2 again g) = laws.one_error 48 content e2 d2 lt f g

  pub token_error_laws : ErrorLaws (λ v. is_value v × IsSequence (enc v)) (λ v. in_token (enc v)) (TaggedError 96 (error 48))
  token_error_laws = record { no_value = no_token; one_error = one_token }
