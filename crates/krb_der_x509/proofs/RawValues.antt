-- Octets that are one value.
use Rattle.std.proofs.Common.{◌≡◌, ℕ, Bool, true, false, eqb, ◌<◌, ◌^◌, List, [], ◌++◌, length, get_or, drop, refl, sym, ap, eq-eqb, ◌∙◌, arith}
use Rattle.std.specs.Prelude.{MatchBool}
use Rattle.std.proofs.lemmas.Bool.{eqb-true, false≢true}
use Rattle.std.proofs.lemmas.List.{append-nil, length-append, drop_all}
use Rattle.krb_der_core.specs.Tlv.{tlv}
use Rattle.krb_der_core.specs.TlvLaws.{tlv_apart}
use Rattle.krb_der_core.specs.Encoding.{IsElement}
use Rattle.krb_der_core.specs.Reading.{TakesPrefix, NoPrefix, RejectsPrefix, Elements}
use Rattle.krb_der_core.specs.declared.error.Asn1DerError.{Asn1DerError}
use Rattle.krb_der_core.specs.declared.error.Asn1DerError.TheVariants as errors

length_tlv : (t : ℕ) (c : List ℕ) → 0 < length (tlv t c)
unfolding tlv
length_tlv t c = omega arith

head_tlv : (t : ℕ) (c : List ℕ) → get_or (tlv t c) 0 0 ≡ t
unfolding tlv
head_tlv t c = refl

match_bool : (b : Bool) {P Q : Type 0} → (b ≡ true → P) → (b ≡ false → Q) → MatchBool b P Q
match_bool true p q = p refl
match_bool false p q = q refl

-- by whether two numbers are equal
pub match_equal : (m n : ℕ) {P Q : Type 0} → (m ≡ n → P) → ((m ≡ n → ⊥) → Q) → MatchBool (eqb m n) P Q
match_equal m n p q = match_bool (eqb m n) (λ e. p (eqb-true m n e)) (λ e. q (λ k. false≢true (sym e ∙ eq-eqb m n k)))

module _ (first : ℕ → Bool) (octets : List ℕ) where
  pub raw_empty : length octets ≡ 0 → IsElement first octets → ⊥
  raw_empty e h = omega (arith, length_tlv h.tag h.content, ap length h.whole, e)

  head : (h : IsElement first octets) → get_or octets 0 0 ≡ h.tag
  head h = ap (λ (l : List ℕ). get_or l 0 0) h.whole ∙ head_tlv h.tag h.content

  pub raw_tag : false ≡ first (get_or octets 0 0) → IsElement first octets → ⊥
  raw_tag e h = false≢true (e ∙ ap first (head h) ∙ h.begins)

  pub raw_whole : (t n : ℕ) (c : List ℕ) → true ≡ first t → TakesPrefix (tlv t c) n octets → n ≡ length octets → IsElement first octets
  raw_whole t n c e f w =
      record { tag = t; content = c; whole = f.prefix ∙ ap (λ (l : List ℕ). tlv t c ++ l) (drop_all n octets (omega (arith, w))) ∙ append-nil (tlv t c); begins = sym e }

  pub raw_more : (t n : ℕ) (c : List ℕ) → TakesPrefix (tlv t c) n octets → (n ≡ length octets → ⊥) → IsElement first octets → ⊥
  raw_more t n c f other h =
      let s = tlv_apart t h.tag c h.content (drop n octets) [] (sym f.prefix ∙ h.whole ∙ sym (append-nil (tlv h.tag h.content))) in
      other (omega (arith, f.count, ap length f.prefix, length-append (tlv t c) (drop n octets), ap length s.rest))

  none_whole : (t : ℕ) → t ≡ get_or octets 0 0 → length octets < 2 ^ 64 → NoPrefix (Elements t) octets → IsElement first octets → ⊥
  none_whole t same lt none h =
      none octets [] (h.content, lt, h.whole ∙ ap (λ k. tlv k h.content) (sym (same ∙ head h))) (sym (append-nil octets))

  pub raw_rejected : (t : ℕ) (e : Asn1DerError) → t ≡ get_or octets 0 0 → length octets < 2 ^ 64 → (e ≡ errors.OutOfMemory → ⊥) → RejectsPrefix (Elements t) octets e → IsElement first octets → ⊥
  raw_rejected t errors.OutOfMemory same lt other r h = other refl
  raw_rejected t errors.TruncatedData same lt other r h = none_whole t same lt r h
  raw_rejected t errors.InvalidData same lt other r h = none_whole t same lt r.0 h
  raw_rejected t errors.UnsupportedValue same lt other r h = none_whole t same lt r.0 h
  raw_rejected t (errors.Io io) same lt other r h = r

pub raw_other : (first : ℕ → Bool) (t : ℕ) (c v : List ℕ) → false ≡ first t → IsElement first v → tlv t c ≡ v → ⊥
raw_other first t c v e h q =
    let s = tlv_apart t h.tag c h.content [] [] (ap (λ (l : List ℕ). l ++ []) (q ∙ h.whole)) in
    false≢true (e ∙ ap first s.tag ∙ h.begins)
