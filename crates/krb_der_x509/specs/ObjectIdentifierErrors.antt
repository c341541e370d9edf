-- The first error of the content of an object identifier (X.690, 8.19), from the left.
use Rattle.std.proofs.Common.{◌≡◌, ◌⊎◌, ℕ, suc, ◌+◌, ◌*◌, ◌/◌, ◌%◌, ◌<◌, ◌≤◌, ◌^◌, List, [], ◌∷◌, ◌++◌, length, slice_index, sym, ap, ◌∙◌, inl, inr, arith}
use Rattle.std.proofs.lemmas.List.{length-append}
use Rattle.std.specs.List.{flat_map, AllByRecursion}
use Rattle.std.specs.Int.Digits.{digits_of}
use Rattle.krb_der_core.specs.declared.error.Asn1DerError.{Asn1DerError}
use Rattle.krb_der_core.specs.declared.error.Asn1DerError.TheVariants as errors
use Rattle.krb_der_core.specs.Errors.{RowError, ContentLaws, PrefixLaws}
use Rattle.krb_der_core.specs.ErrorLaws.{row_laws}
use Rattle.krb_der_x509.specs.ObjectIdentifier.{continued, sub_identifier, sub_identifiers, arcs_content, IsArcs}
use Rattle.krb_der_x509.specs.ObjectIdentifierLaws.{sub_apart, sub_some}

-- no sub-identifier below 2^64 is at the start
abbrev pub NoSubIdentifier : List ℕ → Type 0
NoSubIdentifier octets = (n : ℕ) (rest : List ℕ) → n < 2 ^ 64 → octets ≡ sub_identifier n ++ rest → ⊥

-- The octets begin with the digits of a number that with one digit more is past 64 bits, and one more octet is there.
abbrev pub IsTooLarge : List ℕ → Type 0
IsTooLarge octets = (n : ℕ) × (rest : List ℕ) × (octets ≡ continued (digits_of 128 n) ++ rest) × (0 < length rest) × (2 ^ 57 ≤ n)

-- The first error of a sub-identifier: it is past 64 bits, which is not supported; or it begins with 80 or is cut short.
abbrev pub SubIdentifierError : List ℕ → Asn1DerError → Type 0
SubIdentifierError octets e = NoSubIdentifier octets × (((e ≡ errors.UnsupportedValue) × IsTooLarge octets) ⊎ ((e ≡ errors.InvalidData) × (IsTooLarge octets → ⊥)))

-- The first error of the content: it is empty, or it is that of a sub-identifier after others.
abbrev pub ArcsError : List ℕ → Asn1DerError → Type 0
ArcsError content e = ((e ≡ errors.InvalidData) × (content ≡ [])) ⊎ RowError (λ n. n < 2 ^ 64) sub_identifier SubIdentifierError content e

-- ---- there is one, and none where arcs stand

one_sub : (octets : List ℕ) (e d : Asn1DerError) → length octets < 2 ^ 64 → SubIdentifierError octets e → SubIdentifierError octets d → e ≡ d
one_sub octets e d lt (f0, inl f) (g0, inl g) = f.0 ∙ sym g.0
one_sub octets e d lt (f0, inl f) (g0, inr g) = absurd (g.1 f.1)
one_sub octets e d lt (f0, inr f) (g0, inl g) = absurd (f.1 g.1)
one_sub octets e d lt (f0, inr f) (g0, inr g) = f.0 ∙ sym g.0

sub_laws : PrefixLaws (λ n. n < 2 ^ 64) sub_identifier (λ n rest. Unit {0}) SubIdentifierError
sub_laws = record {
  no_value = λ octets e lt f n rest h q u. f.0 n rest h q;
  one_error = one_sub;
  one_rest = λ m n x y h k u v e. (sub_apart m n x y e).1;
}

sub_long : (n : ℕ) → n < 2 ^ 64 → 0 < length (sub_identifier n)
unfolding sub_identifier
sub_long n h = omega (arith, length-append (continued (digits_of 128 (n / 128))) (n % 128 ∷ []))

subs_laws : ContentLaws (AllByRecursion (λ n. n < 2 ^ 64)) (flat_map sub_identifier) (RowError (λ n. n < 2 ^ 64) sub_identifier SubIdentifierError)
subs_laws = row_laws (λ n. n < 2 ^ 64) sub_identifier SubIdentifierError sub_laws sub_long

all_below : (v : List ℕ) → ((i : ℕ) → slice_index v i < 2 ^ 64) → AllByRecursion (λ n. n < 2 ^ 64) v
all_below [] h = tt
all_below (n ∷ v) h = (h 0, all_below v (λ i. h (suc i)))

subs_below : (arcs : List ℕ) → IsArcs arcs → AllByRecursion (λ n. n < 2 ^ 64) (sub_identifiers arcs)
subs_below [] h = tt
subs_below (a ∷ []) h = absurd (omega (arith, h.some))
subs_below (a ∷ b ∷ arcs) h = (h.first, all_below arcs (λ i. h.each (suc (suc i))))

arcs_some : (arcs : List ℕ) → IsArcs arcs → [] ≡ arcs_content arcs → ⊥
arcs_some [] h e = absurd (omega (arith, h.some))
arcs_some (a ∷ []) h e = absurd (omega (arith, h.some))
arcs_some (a ∷ b ∷ arcs) h e = sub_some (40 * a + b) (flat_map sub_identifier arcs) e

no_arcs : (content : List ℕ) (e : Asn1DerError) → length content < 2 ^ 64 → ArcsError content e → (v : List ℕ) → IsArcs v → content ≡ arcs_content v → ⊥
no_arcs content e lt (inl f) v hv q = arcs_some v hv (sym f.1 ∙ q)
no_arcs content e lt (inr f) v hv q = subs_laws.no_value content e lt f (sub_identifiers v) (subs_below v hv) q

not_empty : (content : List ℕ) (e : Asn1DerError) → content ≡ [] → RowError (λ n. n < 2 ^ 64) sub_identifier SubIdentifierError content e → ⊥
not_empty content e p f = omega (arith, ap length (sym p ∙ f.parts), length-append (flat_map sub_identifier f.items) f.rest, f.some_left)

one_arcs : (content : List ℕ) (e d : Asn1DerError) → length content < 2 ^ 64 → ArcsError content e → ArcsError content d → e ≡ d
one_arcs content e d lt (inl f) (inl g) = f.0 ∙ sym g.0
one_arcs content e d lt (inl f) (inr g) = absurd (not_empty content d f.1 g)
one_arcs content e d lt (inr f) (inl g) = absurd (not_empty content e g.1 f)
one_arcs content e d lt (inr f) (inr g) = subs_laws.one_error content e d lt f g

pub arcs_laws : ContentLaws IsArcs arcs_content ArcsError
arcs_laws = record { no_value = no_arcs; one_error = one_arcs }
