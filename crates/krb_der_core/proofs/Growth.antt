-- Headers, and contents that are moved up after them.
use Rattle.std.proofs.Common.{◌≡◌, ℕ, ◌+◌, ◌-◌, ◌*◌, ◌/◌, ◌%◌, ◌^◌, zero, suc, length-drop, ◌<◌, ◌≤◌, List, [], ◌∷◌, ◌++◌, length, take, drop, refl, sym, ap, ◌∙◌, arith, add-one}
use native.Mathlib.Numerals.{unary_clauses}
use Rattle.std.proofs.Math.Nat.{div-div-eq-div-mul}
use Rattle.std.proofs.lemmas.List.{take_at, drop_at, take_rest, take-take, take-append-drop, length-append, length-take-le, drop-append-le, drop_all}
use lib.Seq.{drop-drop}
use Rattle.std.specs.Int.{byte_at, bytes_high_first}
use Rattle.std.specs.Int.Digits.{digits_of}
use Rattle.std.proofs.lemmas.Int.Digits.{digits_of_step, length-digits_of_step}
use Rattle.krb_der_core.specs.Tlv.{header, tlv}
use Rattle.krb_der_core.specs.TlvLaws.{len-small, len-large}

byte_trailing : (k n : ℕ) → byte_at (suc k) n ≡ byte_at k (n / 256)
byte_trailing zero n = refl
byte_trailing (suc k) n =
    let power : 256 ^ suc (suc k) ≡ 256 * 256 ^ suc k = simp unary_clauses (omega arith) in
    ap (λ p. n / p % 256) power ∙ ap (λ m. m % 256) (sym (div-div-eq-div-mul n 256 (256 ^ suc k)))

last_octet : (k n : ℕ) → bytes_high_first (suc k) n ≡ bytes_high_first k (n / 256) ++ n % 256 ∷ []
last_octet zero n = refl
last_octet (suc k) n = ap (λ b. b ∷ bytes_high_first (suc k) n) (byte_trailing k n) ∙ ap (λ l. byte_at k (n / 256) ∷ l) (last_octet k n)

octets_length : (k n : ℕ) → length (bytes_high_first k n) ≡ k
octets_length zero n = refl
octets_length (suc k) n = ap suc (octets_length k n)

nothing : (l : List ℕ) → length l ≤ 0 → [] ≡ l
nothing [] h = refl
nothing (x ∷ xs) h = absurd (omega arith)

-- the k octets of a number that fits them end in its digits
pub digits_trailing : (k n : ℕ) → length (digits_of 256 n) ≤ k → drop (k - length (digits_of 256 n)) (bytes_high_first k n) ≡ digits_of 256 n
digits_trailing zero n few = rw (← nothing (digits_of 256 n) few) refl
digits_trailing (suc k) zero few = drop_all (suc k - 0) (bytes_high_first (suc k) zero) (omega (arith, octets_length (suc k) zero))
digits_trailing (suc k) (suc m) few =
    let n = suc m in
    let size = length-digits_of_step 256 n (omega arith) (omega arith) in
    let left : suc k - length (digits_of 256 n) ≡ k - length (digits_of 256 (n / 256)) = omega (arith, size) in
    let seam = drop-append-le (k - length (digits_of 256 (n / 256))) (bytes_high_first k (n / 256)) (n % 256 ∷ []) (omega (arith, octets_length k (n / 256))) in
    rw (left, last_octet k n, seam, digits_trailing k (n / 256) (omega (arith, size, few))) (sym (digits_of_step 256 n (omega arith) (omega arith)))

-- the last k of a number's eight octets are its k digits
pub digits_copied : (n k : ℕ) (octets copied : List ℕ) → k ≡ length (digits_of 256 n) → k ≤ 8 → octets ≡ bytes_high_first 8 n
    → copied ≡ take (8 - (8 - k)) (drop (8 - k) octets) → copied ≡ digits_of 256 n
digits_copied n k octets copied count few all e =
    let size : length octets ≡ 8 = ap length all ∙ octets_length 8 n in
    let rest : take (8 - (8 - k)) (drop (8 - k) octets) ≡ drop (8 - k) octets = rw size at (take_rest octets (8 - k)) in
    e ∙ rest ∙ ap (λ l. drop (8 - k) l) all ∙ ap (λ m. drop (8 - m) (bytes_high_first 8 n)) count ∙ digits_trailing 8 n (omega (arith, count, few))

pub header_small : (tag n : ℕ) → n < 128 → tag ∷ n ∷ [] ≡ header tag n
header_small tag n lt = rw (len-small n lt) refl

pub header_large : (tag n k : ℕ) (digits room : List ℕ) → 128 ≤ n → k ≡ length (digits_of 256 n) → digits ≡ digits_of 256 n
    → take (2 + k) (tag ∷ (128 + k) ∷ (digits ++ room)) ≡ header tag n
header_large tag n k digits room le count e =
    take_at (tag ∷ (128 + k) ∷ digits) room (2 + k) (omega (arith, ap length e)) ∙ rw (len-large n le, count, e) refl

sum : (start count : ℕ) → start + (start + count - start) ≡ start + count
sum start count = omega arith

-- a header in the place before a content that was moved up to where it ends
pub closed : (out moved written : List ℕ) (start from tag count : ℕ) → start ≤ from → take from moved ≡ take from out → drop (start + count) moved ≡ drop from out
    → written ≡ header tag (length out - from)
    → take start moved ++ (written ++ drop (start + count - start) (drop start moved)) ≡ take start out ++ tlv tag (drop from out)
unfolding tlv
closed out moved written start from tag count order before after w =
    let left : length (drop from out) ≡ length out - from = length-drop from out in
    let prefix : take start moved ≡ take start out = sym (take-take start from moved order) ∙ ap (λ (l : List ℕ). take start l) before ∙ take-take start from out order in
    let back : drop (start + count - start) (drop start moved) ≡ drop from out = drop-drop (start + count - start) start moved ∙ ap (λ n. drop n moved) (sum start count) ∙ after in
    rw (prefix, back, w, left) refl

-- one octet more before a content
pub raised : (out old : List ℕ) (place i x : ℕ) → place ≤ length out → take place out ≡ take place old → drop (place + i) out ≡ drop place old
    → (take place (take place out ++ x ∷ drop place out) ≡ take place old) × (drop (place + (i + 1)) (take place out ++ x ∷ drop place out) ≡ drop place old)
raised out old place i x le before after =
    let size : length (take place out) ≡ place = length-take-le place out le in
    let rest : drop place (take place out ++ x ∷ drop place out) ≡ x ∷ drop place out = drop_at (take place out) (x ∷ drop place out) place size in
    let one : drop (i + 1) (x ∷ drop place out) ≡ drop i (drop place out) = ap (λ n. drop n (x ∷ drop place out)) (add-one i) in (
      take_at (take place out) (x ∷ drop place out) place size ∙ before,
      sym (drop-drop (i + 1) place (take place out ++ x ∷ drop place out)) ∙ ap (λ (l : List ℕ). drop (i + 1) l) rest ∙ one ∙ drop-drop i place out ∙ after,
    )

-- the header of a short content in its room
pub filled : (out written : List ℕ) (start tag : ℕ) → start + 2 ≤ length out → length out - start - 2 < 128 → written ≡ tag ∷ (length out - start - 2) ∷ []
    → take start out ++ (written ++ drop (start + 2 - start) (drop start out)) ≡ take start out ++ tlv tag (drop (start + 2) out)
unfolding tlv
filled out written start tag le lt w =
    let left : length (drop (start + 2) out) ≡ length out - start - 2 = omega (arith, length-drop (start + 2) out) in
    let back : drop (start + 2 - start) (drop start out) ≡ drop (start + 2) out = drop-drop (start + 2 - start) start out ∙ ap (λ n. drop n out) (sum start 2) in
    rw (back, w, left, len-small (length out - start - 2) lt) refl

pub written_length : (s written : List ℕ) (start k : ℕ) → start ≤ length s → length written ≡ length (take k (drop start s))
    → length (take start s ++ (written ++ drop k (drop start s))) ≡ length s
written_length s written start k le e =
    let split : length (take k (drop start s)) + length (drop k (drop start s)) ≡ length (drop start s) = sym (length-append (take k (drop start s)) (drop k (drop start s))) ∙ ap length (take-append-drop k (drop start s)) in
    omega (arith, e, split, length-drop start s, length-take-le start s le, length-append written (drop k (drop start s)), length-append (take start s) (written ++ drop k (drop start s)))
