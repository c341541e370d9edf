-- Contents of primitive elements, by what a check of them says.
use Rattle.std.proofs.Common.{◌≡◌, ℕ, zero, suc, ℤ, pos, negsuc, inl, inr, ◌<◌, ◌≤◌, ◌*◌, ◌-◌, ◌^◌, Bool, true, false, List, [], ◌∷◌, ◌++◌, length, get_or, drop, slice_index, refl, sym, ap, ◌∙◌, subst, append_assoc, arith, MatchBool}
use Rattle.std.specs.Int.{w64}
use Rattle.std.specs.Prelude.{FitsSigned}
use Rattle.std.specs.List.{AllByRecursion, flat_map}
use Rattle.std.specs.Int.Digits.{number_from_digits, AllBelowBase}
use Rattle.std.proofs.lemmas.Bool.{cases_lt}
use Rattle.std.proofs.lemmas.List.{append-nil}
use Rattle.krb_der_core.specs.Errors.{PrimitiveError}
use Rattle.krb_der_core.specs.Integer.{IsShortest, inverted, shortest, whole_number}
use Rattle.krb_der_core.specs.IntegerLaws.{shortest_is, shortest_of_number}
use Rattle.krb_der_core.specs.Reading.{TakesPrefix}
use Rattle.krb_der_core.specs.Tlv.{tlv}
use Rattle.krb_der_core.specs.TlvLaws.{tlv_same}
use Rattle.krb_der_core.specs.declared.error.Asn1DerError.TheVariants as errors
use Rattle.krb_der_core.proofs.IntegerBounds.{is_inverted, is_natural, more_than_eight}
use Rattle.krb_der_x509.proofs.ObjectIdentifiers.{below_push}
use Rattle.krb_der_x509.specs.ObjectIdentifier.{IsArcs, arcs_content, sub_identifier}
use Rattle.krb_schema.specs.Faults.{refused_at}
use Rattle.krb_schema.specs.Leaves.{IsOf}
use Rattle.krb_schema.specs.declared.item.Fault.TheVariants as faults
use Rattle.krb_encoding_check.specs.Contents.{Has, HasNone}

-- what a content is says what its element is
pub of_content : {A : Type 0} (tag : ℕ) (is_value : A → Type 0) (content_of : A → List ℕ) (content : List ℕ) (b : Bool)
    → MatchBool b (Has is_value content_of content) (HasNone is_value content_of content)
    → MatchBool b (IsOf is_value (λ v. tlv tag (content_of v)) tag content) ((at : ℕ) → refused_at at (PrimitiveError tag is_value content_of tag content) (faults.Refused errors.InvalidData at))
of_content tag is_value content_of content true h = (h.0, h.1, ap (λ (c : List ℕ). tlv tag c) h.2)
of_content tag is_value content_of content false h =
    λ at. (errors.InvalidData, (refl, λ v hv e. h v hv (tlv_same tag tag content (content_of v) e)), refl)

-- ---- INTEGER

pub integer_content : (content : List ℕ) (b : Bool) → AllBelowBase 256 content → MatchBool b (IsShortest content) (IsShortest content → ⊥)
    → MatchBool b (Has {A = ℤ} (λ v. Unit {0}) shortest content) (HasNone {A = ℤ} (λ v. Unit {0}) shortest content)
integer_content content true below h = (whole_number content, tt, sym (shortest_of_number content below h))
integer_content content false below h = λ v u e. h (subst IsShortest (sym e) (shortest_is v))

pub no_integer : (content : List ℕ) → (IsShortest content → ⊥) → HasNone (λ (v : ℕ). v < 2 ^ 32) (λ v. shortest (pos v)) content
no_integer content h = λ v u e. h (subst IsShortest (sym e) (shortest_is (pos v)))

unsigned_fits : (v : ℕ) → v < 2 ^ 32 → FitsSigned w64 (pos v)
unsigned_fits v h = record { sfits = omega (arith, h) }

pub too_long : (content : List ℕ) → 8 < length content → HasNone (λ (v : ℕ). v < 2 ^ 32) (λ v. shortest (pos v)) content
too_long content long = λ v u e. more_than_eight (pos v) content e long (unsigned_fits v u)

not_negative : (v n : ℕ) → pos v ≡ negsuc n → ⊥
not_negative v n e = cc

pub negative : (content : List ℕ) → length content ≤ 8 → 128 ≤ get_or content 0 0 → HasNone (λ (v : ℕ). v < 2 ^ 32) (λ v. shortest (pos v)) content
negative content few large = λ v u e.
    let n = number_from_digits 256 (inverted content) in
    not_negative v n (is_inverted (pos v) content n e few large refl).number

same_number : (v n : ℕ) → pos v ≡ pos n → v ≡ n
same_number v n e = cc

pub too_large : (content : List ℕ) (n : ℕ) → length content ≤ 8 → get_or content 0 0 < 128 → n ≡ number_from_digits 256 content → 2 ^ 32 ≤ n
    → HasNone (λ (v : ℕ). v < 2 ^ 32) (λ v. shortest (pos v)) content
too_large content n few small is large = λ v u e. omega (arith, u, large, same_number v n (is_natural (pos v) content n e few small is).number)

pub is_few : (content : List ℕ) (n : ℕ) → AllBelowBase 256 content → IsShortest content → length content ≤ 8 → get_or content 0 0 < 128 → n ≡ number_from_digits 256 content
    → n < 2 ^ 32 → Has (λ (v : ℕ). v < 2 ^ 32) (λ v. shortest (pos v)) content
is_few content n below short few small is less =
    let whole : shortest (whole_number content) ≡ content = shortest_of_number content below short in
    (n, less, sym whole ∙ ap shortest (is_natural (whole_number content) content n (sym whole) few small is).number)

-- ---- OBJECT IDENTIFIER

-- the octets before the rest are sub-identifiers
pub record ArcsSoFar (octets rest : List ℕ) : Type 0 where
  pub numbers : List ℕ
  pub below : AllByRecursion (λ (n : ℕ). n < 2 ^ 64) numbers
  pub parts : octets ≡ flat_map sub_identifier numbers ++ rest

pub arcs_begun : (octets : List ℕ) → ArcsSoFar octets octets
arcs_begun octets = record { numbers = []; below = tt; parts = refl }

pub arcs_more : (octets rest : List ℕ) (n taken : ℕ) → ArcsSoFar octets rest → TakesPrefix (sub_identifier n) taken rest → n < 2 ^ 64 → ArcsSoFar octets (drop taken rest)
arcs_more octets rest n taken s t less = record {
  numbers = s.numbers ++ n ∷ [];
  below = below_push s.numbers n s.below less;
  parts = s.parts ∙ ap (λ (l : List ℕ). flat_map sub_identifier s.numbers ++ l) t.prefix
      ∙ sym (append_assoc (flat_map sub_identifier s.numbers) (sub_identifier n) (drop taken rest))
      ∙ ap (λ (l : List ℕ). l ++ drop taken rest) (sym (one_behind s.numbers n));
}
  where
    one_behind : (v : List ℕ) (m : ℕ) → flat_map sub_identifier (v ++ m ∷ []) ≡ flat_map sub_identifier v ++ sub_identifier m
    one_behind [] m = append-nil (sub_identifier m)
    one_behind (k ∷ v) m = ap (λ (l : List ℕ). sub_identifier k ++ l) (one_behind v m) ∙ sym (append_assoc (sub_identifier k) (flat_map sub_identifier v) (sub_identifier m))

index_below : (v : List ℕ) → AllByRecursion (λ (n : ℕ). n < 2 ^ 64) v → (i : ℕ) → slice_index v i < 2 ^ 64
index_below [] h zero = omega arith
index_below [] h (suc i) = omega arith
index_below (n ∷ v) h zero = h.0
index_below (n ∷ v) h (suc i) = index_below v h.1 i

module _ (first root : ℕ) (others : List ℕ) (less : first < 2 ^ 64) (below : AllByRecursion (λ (n : ℕ). n < 2 ^ 64) others) (is_root : root ≤ 2) (within : 40 * root ≤ first)
    (few : root < 2 → first - 40 * root ≤ 39) where
  each_below : (i : ℕ) → slice_index (root ∷ (first - 40 * root) ∷ others) i < 2 ^ 64
  each_below zero = omega (arith, is_root)
  each_below (suc zero) = omega (arith, less)
  each_below (suc (suc i)) = index_below others below i

  arcs_read : Has IsArcs arcs_content (flat_map sub_identifier (first ∷ others))
  arcs_read = (
    root ∷ (first - 40 * root) ∷ others,
    record { some = omega arith; root = is_root; second = few; first = omega (arith, less, within); each = each_below },
    ap (λ (n : ℕ). sub_identifier n ++ flat_map sub_identifier others) (omega (arith, within)),
  )

-- sub-identifiers below 2^64 are the content of arcs
arcs_of : (numbers : List ℕ) → 0 < length numbers → AllByRecursion (λ (n : ℕ). n < 2 ^ 64) numbers → Has IsArcs arcs_content (flat_map sub_identifier numbers)
arcs_of [] some h = absurd (omega (arith, some))
arcs_of (n ∷ others) some h =
    elim (cases_lt n 40) [
      | inl low ↦ arcs_read n 0 others h.0 h.1 (omega arith) (omega arith) (λ k. omega (arith, low))
      | inr high ↦ elim (cases_lt n 80) [
        | inl low ↦ arcs_read n 1 others h.0 h.1 (omega arith) (omega (arith, high)) (λ k. omega (arith, low))
        | inr higher ↦ arcs_read n 2 others h.0 h.1 (omega arith) (omega (arith, higher)) (λ k. absurd (omega (arith, k)))
      ]
    ]

some_numbers : (content numbers : List ℕ) → 0 < length content → content ≡ flat_map sub_identifier numbers → 0 < length numbers
some_numbers content [] some e = absurd (omega (arith, some, ap (λ (l : List ℕ). length l) e))
some_numbers content (n ∷ numbers) some e = omega arith

pub arcs_ended : (octets rest : List ℕ) → 0 < length octets → length rest ≡ 0 → ArcsSoFar octets rest → Has IsArcs arcs_content octets
arcs_ended octets [] some none_left s =
    let whole : octets ≡ flat_map sub_identifier s.numbers = s.parts ∙ append-nil (flat_map sub_identifier s.numbers) in
    subst (Has IsArcs arcs_content) (sym whole) (arcs_of s.numbers (some_numbers octets s.numbers some whole) s.below)
arcs_ended octets (x ∷ rest) some none_left s = absurd (omega (arith, none_left))
