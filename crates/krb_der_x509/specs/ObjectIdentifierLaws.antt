-- A content determines its sub-identifiers.
use Rattle.std.proofs.Common.{◌≡◌, ℕ, ◌+◌, ◌-◌, ◌*◌, ◌/◌, ◌%◌, ◌<◌, ◌≤◌, List, [], ◌∷◌, ◌++◌, length, get_or, slice_index, Option, Some, None, refl, sym, ap, ◌∙◌, append_assoc, arith, inl, inr, nat_lt, if◌then◌else◌}
use Rattle.std.proofs.lemmas.Bool.{cases_lt, le-ltb, lt-ltb}
use Rattle.std.specs.List.{flat_map}
use Rattle.std.specs.Int.Digits.{digits_of, number_from_digits, number_from_digits_after}
use Rattle.std.proofs.lemmas.Int.Digits.{number_digits_of}
use Rattle.krb_der_core.specs.DigitLaws.{first_digit}
use Rattle.krb_der_core.specs.Encoding.{OneValue}
use Rattle.krb_der_core.specs.TlvLaws.{same_heads}
use Rattle.krb_der_x509.specs.ObjectIdentifier.{continued, sub_identifier, arcs_content, IsArcs}

-- the number that is read on from n, and what follows it
pub decode : ℕ → List ℕ → Option (ℕ × List ℕ)
decode n [] = None
decode n (b ∷ bs) = if nat_lt b 128 then Some (n * 128 + b, bs) else decode (n * 128 + (b - 128)) bs

pub decode_last : (n b : ℕ) (bs : List ℕ) → b < 128 → decode n (b ∷ bs) ≡ Some (n * 128 + b, bs)
unfolding decode
decode_last n b bs h = rw (lt-ltb b 128 h) refl

pub decode_more : (n b : ℕ) (bs : List ℕ) → 128 ≤ b → decode n (b ∷ bs) ≡ decode (n * 128 + (b - 128)) bs
unfolding decode
decode_more n b bs h = rw (le-ltb b 128 h) refl

decode_continued : (n : ℕ) (ds : List ℕ) (b : ℕ) (x : List ℕ) → b < 128 → decode n (continued ds ++ b ∷ x) ≡ Some (number_from_digits_after 128 n ds * 128 + b, x)
decode_continued n [] b x h = decode_last n b x h
decode_continued n (d ∷ ds) b x h =
    let same : n * 128 + ((128 + d) - 128) ≡ n * 128 + d = omega arith in
    decode_more n (128 + d) (continued ds ++ b ∷ x) (omega arith) ∙ ap (λ m. decode m (continued ds ++ b ∷ x)) same ∙ decode_continued (n * 128 + d) ds b x h

pub decode_sub : (n : ℕ) (x : List ℕ) → decode 0 (sub_identifier n ++ x) ≡ Some (n, x)
unfolding sub_identifier
decode_sub n x =
    let k : number_from_digits 128 (digits_of 128 (n / 128)) ≡ n / 128 = number_digits_of 128 (n / 128) (omega arith) in
    let s : number_from_digits_after 128 0 (digits_of 128 (n / 128)) * 128 + n % 128 ≡ n = omega (arith, k) in
    ap (λ (l : List ℕ). decode 0 l) (append_assoc (continued (digits_of 128 (n / 128))) (n % 128 ∷ []) x)
    ∙ decode_continued 0 (digits_of 128 (n / 128)) (n % 128) x (omega arith) ∙ ap (λ m. Some (m, x)) s

same_some : (a b : ℕ × List ℕ) → Some a ≡ Some b → a ≡ b
same_some a b e = cc

pub sub_apart : (m n : ℕ) (x y : List ℕ) → sub_identifier m ++ x ≡ sub_identifier n ++ y → (m ≡ n) × (x ≡ y)
sub_apart m n x y e =
    let s = same_some (m, x) (n, y) (sym (decode_sub m x) ∙ ap (λ (l : List ℕ). decode 0 l) e ∙ decode_sub n y) in
    (ap (λ (p : ℕ × List ℕ). p.0) s, ap (λ (p : ℕ × List ℕ). p.1) s)

none_some : (p : ℕ × List ℕ) → None ≡ Some p → ⊥
none_some p e = cc

pub sub_some : (n : ℕ) (x : List ℕ) → [] ≡ sub_identifier n ++ x → ⊥
unfolding decode
sub_some n x e = none_some (n, x) (ap (λ (l : List ℕ). decode 0 l) e ∙ decode_sub n x)

pub decode_none : (k n : ℕ) (x : List ℕ) → decode k [] ≡ Some (n, x) → ⊥
unfolding decode
decode_none k n x e = none_some (n, x) e

last_large : (k b n : ℕ) (bs x : List ℕ) → ◌≡◌ {A = Option (ℕ × List ℕ)} (Some (k * 128 + b, bs)) (Some (n, x)) → k * 128 ≤ n
last_large k b n bs x e = let s = ap (λ (p : ℕ × List ℕ). p.0) (same_some (k * 128 + b, bs) (n, x) e) in omega (arith, s)

-- a number that is read on from k is no less than k times the base
pub decode_large : (k n : ℕ) (octets x : List ℕ) → decode k octets ≡ Some (n, x) → k * 128 ≤ n
decode_large k n [] x e = absurd (decode_none k n x e)
decode_large k n (b ∷ bs) x e =
    elim (cases_lt b 128) [
      | inl lt ↦ last_large k b n bs x (sym (decode_last k b bs lt) ∙ e)
      | inr le ↦ (let s = decode_large (k * 128 + (b - 128)) n bs x (sym (decode_more k b bs le) ∙ e) in omega (arith, s))
    ]

first_apart : (ds : List ℕ) (b : ℕ) (x : List ℕ) → b < 128 → (0 < length ds → 0 < get_or ds 0 0) → slice_index (continued ds ++ b ∷ x) 0 ≡ 128 → ⊥
first_apart [] b x lt p e = let k : b ≡ 128 = e in omega arith
first_apart (d ∷ ds) b x lt p e = let k : 128 + d ≡ 128 = e in let q : 0 < d = p (omega arith) in omega arith

-- no sub-identifier begins with 80
pub sub_first : (n : ℕ) (x octets : List ℕ) → octets ≡ sub_identifier n ++ x → slice_index octets 0 ≡ 128 → ⊥
unfolding sub_identifier
sub_first n x octets q e =
    first_apart (digits_of 128 (n / 128)) (n % 128) x (omega arith) (first_digit 128 (n / 128) (omega arith)) (ap (λ (l : List ℕ). slice_index l 0) (sym (q ∙ append_assoc (continued (digits_of 128 (n / 128))) (n % 128 ∷ []) x)) ∙ e)

pub flat_one : (v w : List ℕ) → flat_map sub_identifier v ≡ flat_map sub_identifier w → v ≡ w
flat_one [] [] e = refl
flat_one [] (n ∷ w) e = absurd (sub_some n (flat_map sub_identifier w) e)
flat_one (m ∷ v) [] e = absurd (sub_some m (flat_map sub_identifier v) (sym e))
flat_one (m ∷ v) (n ∷ w) e =
    let s = sub_apart m n (flat_map sub_identifier v) (flat_map sub_identifier w) e in
    let t = flat_one v w s.1 in
    let p : m ≡ n = s.0 in
    cc

low : (a b c d : ℕ) → 40 * a + b ≡ 40 * c + d → (a < 2 → b ≤ 39) → c ≤ 2 → a < c → ⊥
low a b c d k fa rc lt = omega (arith, k, fa (omega (arith, lt, rc)))

roots : (a b c d : ℕ) → 40 * a + b ≡ 40 * c + d → a ≤ 2 → c ≤ 2 → (a < 2 → b ≤ 39) → (c < 2 → d ≤ 39) → a ≡ c
roots a b c d k ra rc fa fc =
    elim (cases_lt a c) [
      | inl lt ↦ absurd (low a b c d k fa rc lt)
      | inr le ↦ elim (cases_lt c a) [
        | inl lt ↦ absurd (low c d a b (sym k) fc ra lt)
        | inr ge ↦ omega (arith, le, ge)
      ]
    ]

same_arcs : (a b c d : ℕ) (x y : List ℕ) → a ≡ c → b ≡ d → x ≡ y → a ∷ b ∷ x ≡ c ∷ d ∷ y
same_arcs a b c d x y p q r = cc

pub arcs_one_content : OneValue IsArcs arcs_content
arcs_one_content [] w hv hw e = absurd (omega (arith, hv.some))
arcs_one_content (a ∷ []) w hv hw e = absurd (omega (arith, hv.some))
arcs_one_content (a ∷ b ∷ x) [] hv hw e = absurd (omega (arith, hw.some))
arcs_one_content (a ∷ b ∷ x) (c ∷ []) hv hw e = absurd (omega (arith, hw.some))
arcs_one_content (a ∷ b ∷ x) (c ∷ d ∷ y) hv hw e =
    let s = same_heads (40 * a + b) (40 * c + d) x y (flat_one ((40 * a + b) ∷ x) ((40 * c + d) ∷ y) e) in
    let k : 40 * a + b ≡ 40 * c + d = s.0 in
    let ra : a ≤ 2 = hv.root in
    let rc : c ≤ 2 = hw.root in
    let fa : a < 2 → b ≤ 39 = hv.second in
    let fc : c < 2 → d ≤ 39 = hw.second in
    same_arcs a b c d x y (roots a b c d k ra rc fa fc) (omega (arith, k, roots a b c d k ra rc fa fc)) s.1
