-- Octets that are one element are read whole.
use Rattle.std.proofs.Common.{◌≡◌, ℕ, ◌<◌, ◌^◌, List, [], ◌++◌, length, drop, refl, sym, ap, ◌∙◌, arith, Option, None, Some, MatchOption}
use Rattle.std.specs.Borrow.{Bor}
use Rattle.std.proofs.lemmas.List.{append-nil, drop_all, length-append}
use Rattle.krb_der_core.specs.Reading.{Elements, RejectsPrefix, TakesPrefix}
use Rattle.krb_der_core.specs.Tlv.{tlv}
use Rattle.krb_der_core.specs.TlvLaws.{tlv_apart, tlv_same}
use Rattle.krb_der_core.specs.declared.error.Asn1DerError.{Asn1DerError}
use Rattle.krb_der_core.specs.declared.error.Asn1DerError.TheVariants as errors

fits : (t : ℕ) (c octets : List ℕ) → length octets < 2 ^ 64 → octets ≡ tlv t c → length (tlv t c) < 2 ^ 64
fits t c octets lt q = omega (arith, ap length q)

whole : (t : ℕ) (c octets : List ℕ) → octets ≡ tlv t c → octets ≡ tlv t c ++ []
whole t c octets q = q ∙ sym (append-nil (tlv t c))

pub not_rejected : (t : ℕ) (c octets : List ℕ) (e : Asn1DerError) → length octets < 2 ^ 64 → RejectsPrefix (Elements t) octets e → (e ≡ errors.OutOfMemory → ⊥) → octets ≡ tlv t c → ⊥
not_rejected t c octets errors.OutOfMemory lt r heapless q = heapless refl
not_rejected t c octets errors.TruncatedData lt r heapless q = r (tlv t c) [] (c, fits t c octets lt q, refl) (whole t c octets q)
not_rejected t c octets errors.InvalidData lt r heapless q = r.0 (tlv t c) [] (c, fits t c octets lt q, refl) (whole t c octets q)
not_rejected t c octets errors.UnsupportedValue lt r heapless q = r.0 (tlv t c) [] (c, fits t c octets lt q, refl) (whole t c octets q)
not_rejected t c octets (errors.Io x) lt r heapless q = r

-- all of them are taken
pub all_taken : (t : ℕ) (c content octets : List ℕ) (taken : ℕ) → TakesPrefix (tlv t content) taken octets → octets ≡ tlv t c → taken ≡ length octets
all_taken t c content octets taken found q =
    let s = tlv_apart t t content c (drop taken octets) [] (sym found.prefix ∙ whole t c octets q) in
    omega (arith, found.count, ap length found.prefix, length-append (tlv t content) (drop taken octets), ap length s.rest)

-- and where all are taken, they are the element
pub is_whole : (t : ℕ) (content octets : List ℕ) (taken : ℕ) → TakesPrefix (tlv t content) taken octets → taken ≡ length octets → octets ≡ tlv t content
is_whole t content octets taken found all =
    found.prefix ∙ ap (λ (l : List ℕ). tlv t content ++ l) (drop_all taken octets (omega (arith, all))) ∙ append-nil (tlv t content)

-- what stands behind a front in the one element that octets are
pub behind_front : (t : ℕ) (front content octets : List ℕ) (r : Option (Bor (List ℕ))) → octets ≡ tlv t content
    → MatchOption r ((rest : List ℕ) → content ≡ front ++ rest → ⊥) (λ x. content ≡ front ++ x.now)
    → MatchOption r ((rest : List ℕ) → octets ≡ tlv t (front ++ rest) → ⊥) (λ x. octets ≡ tlv t (front ++ x.now))
behind_front t front content octets None q h = λ rest e. h rest (tlv_same t t content (front ++ rest) (sym q ∙ e))
behind_front t front content octets (Some x) q h = q ∙ ap (tlv t) h
