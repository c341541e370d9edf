-- Folding by whole words: a sum modulo m is multiplied by a power of two, and a turn is added.
use Rattle.std.proofs.Common.{◌≡◌, ℕ, ◌+◌, ◌-◌, ◌*◌, ◌/◌, ◌%◌, ◌^◌, ◌<◌, ◌≤◌, List, [], ◌∷◌, ◌++◌, length, get_or, take, bit_and, refl, sym, ap, subst, ◌∙◌, arith, add-one, inl, inr}
use Rattle.std.proofs.Math.Arith.{digits_lt, digits_mod}
use Rattle.std.proofs.Math.Seq.{take-suc}
use Rattle.std.proofs.Math.Pow.{pow_mono}
use Rattle.std.proofs.Math.Nat.{div-add-mod', mod-lt, mul-le-mul_left, mod-eq_of_lt}
use Rattle.std.proofs.lemmas.Nat.{pow-add, pow_pos, shr_below, and_mask}
use Rattle.std.specs.Int.{bytes_high_first}
use Rattle.std.proofs.lemmas.Bool.{cases_lt}
use Rattle.std.proofs.lemmas.List.{length-take-le}
use Rattle.krb_crypto_block.specs.Fold.{number, gcd, lcm, turned, rot, concatenated, folded_number, fold}
use Rattle.krb_crypto_block.specs.Modes.{IsOctets}
use Rattle.krb_crypto_block.proofs.FoldWorth.{worth, worth-zero, worth-suc, worth_pow, number-nil, number-cons, number-append, number_lt}
use Rattle.krb_crypto_block.proofs.FoldTurns.{turned_twice, rot_lt, concatenated-suc, concatenated-zero}
use Rattle.krb_crypto_block.proofs.Below.{AreBelow-take}
use Rattle.krb_crypto_block.proofs.FoldDivisors.{copies}
use Rattle.krb_crypto_block.proofs.Folding.{residue_from}

-- s is what is left of j modulo m, and is 0 for 0 alone
pub record Left (m j s : ℕ) : Type 0 where
  pub times : ℕ
  pub whole : j ≡ s + times * m
  pub zero_only : s ≡ 0 → times ≡ 0

pub Left-start : (m : ℕ) → Left m 0 0
Left-start m = record { times = 0; whole = omega arith; zero_only = λ h. refl }

step_whole : (m j s p t a r s2 o q : ℕ) → j ≡ s + q * m → s * p ≡ r + a * m → s2 + o * m ≡ r + t → j * p + t ≡ s2 + (a + q * p + o) * m
step_whole m j s p t a r s2 o q ej es e2 =
    let scaled : j * p ≡ (s + q * m) * p = ap (λ (k : ℕ). k * p) ej in
    omega (arith, scaled, es, e2)

factor_zero : (s p : ℕ) → 0 < p → s * p ≡ 0 → s ≡ 0
factor_zero s p pos e =
    let low : s * 1 ≤ s * p = mul-le-mul_left s pos in
    omega (arith, low)

pub Left-step : (m j s p t a r s2 : ℕ) → 0 < m → Left m j s → 0 < p → s * p ≡ r + a * m → a ≤ r → (r + t < m + 1 → s2 ≡ r + t) → (m + 1 ≤ r + t → s2 + m ≡ r + t)
    → Left m (j * p + t) s2
Left-step m j s p t a r s2 some f pos es above small large = elim (cases_lt (r + t) (m + 1)) [
  | inl lt ↦
      let same : s2 + 0 * m ≡ r + t = omega (arith, small lt) in
      record {
        times = a + f.times * p + 0;
        whole = step_whole m j s p t a r s2 0 f.times f.whole es same;
        zero_only = λ h.
            let rz : r ≡ 0 = omega (arith, small lt) in
            let az : a ≡ 0 = omega arith in
            let none : s * p ≡ 0 = omega (arith, es, rz, ap (λ (i : ℕ). i * m) az) in
            let qz : f.times ≡ 0 = f.zero_only (factor_zero s p pos none) in
            rw (az, qz) (omega arith);
      }
  | inr ge ↦
      let same : s2 + 1 * m ≡ r + t = omega (arith, large ge) in
      record {
        times = a + f.times * p + 1;
        whole = step_whole m j s p t a r s2 1 f.times f.whole es same;
        zero_only = λ h. absurd (omega (arith, large ge));
      }
]

-- a turn, from the number twice in a row
pub turn_of : (x k c s : ℕ) → 0 < k → x < 2 ^ k → s ≡ 13 * c % k → (x * 2 ^ k + x) / 2 ^ s % 2 ^ k ≡ rot x k c
turn_of x k c s pos h es =
    let lt : s < k = omega (arith, mod-lt (13 * c) pos) in
    let at : (k - s) + s ≡ k = omega arith in
    let twice : (x * 2 ^ k + x) / 2 ^ s ≡ x / 2 ^ s * 2 ^ k + turned x k s =
    subst (λ (i : ℕ). (x * 2 ^ i + x) / 2 ^ s ≡ x / 2 ^ s * 2 ^ i + turned x k s) at (turned_twice x (k - s) s) in
    let small : turned x k s < 2 ^ k = rw es (rot_lt x k c pos h) in
    ap (λ (i : ℕ). i % 2 ^ k) twice ∙ digits_mod (x / 2 ^ s) small ∙ ap (λ (i : ℕ). turned x k i) es

-- the bits of the next turn
pub shift_moves : (k c s : ℕ) → 0 < k → s ≡ 13 * c % k → s + 13 < k → s + 13 ≡ 13 * (c + 1) % k
shift_moves k c s pos es lt =
    let e : 13 * (c + 1) ≡ 13 * c / k * k + (s + 13) = omega (arith, div-add-mod' (13 * c) k) in
    sym (ap (λ (i : ℕ). i % k) e ∙ digits_mod (13 * c / k) lt)

pub shift_wraps : (k c s : ℕ) → 13 < k → s ≡ 13 * c % k → k ≤ s + 13 → s + 13 - k ≡ 13 * (c + 1) % k
shift_wraps k c s big es ge =
    let pos : 0 < k = omega arith in
    let lt : s + 13 - k < k = omega (arith, mod-lt (13 * c) pos) in
    let e : 13 * (c + 1) ≡ (13 * c / k + 1) * k + (s + 13 - k) = omega (arith, div-add-mod' (13 * c) k) in
    sym (ap (λ (i : ℕ). i % k) e ∙ digits_mod (13 * c / k + 1) lt)

-- one turn
pub turn_step : (m x k c s t a r s2 : ℕ) → 0 < m → t ≡ rot x k c → Left m (concatenated x k c) s → s * 2 ^ k ≡ r + a * m → a ≤ r
    → (r + t < m + 1 → s2 ≡ r + t) → (m + 1 ≤ r + t → s2 + m ≡ r + t) → Left m (concatenated x k (c + 1)) s2
turn_step m x k c s t a r s2 some et f es above small large =
    let e : concatenated x k c * 2 ^ k + t ≡ concatenated x k (c + 1) = rw (add-one, concatenated-suc, et) refl in
    subst (λ (i : ℕ). Left m i s2) e (Left-step m (concatenated x k c) s (2 ^ k) t a r s2 some f (pow_pos k) es above small large)

pub turns_start : (m x k s : ℕ) → s ≡ 0 → Left m (concatenated x k 0) s
turns_start m x k s e = rw (e, concatenated-zero) (Left-start m)

-- all turns
pub turns_all : (x n c s : ℕ) → 0 < n → c ≡ 16 / gcd 16 n → s < 2 ^ 128 → Left (2 ^ 128 - 1) (concatenated x (8 * n) c) s → s ≡ folded_number x (8 * n) 128
unfolding folded_number
turns_all x n c s pos ec lt f =
    let e : lcm (8 * 16) (8 * n) / (8 * n) ≡ c = copies 16 n (omega arith) pos ∙ sym ec in
    rw e (residue_from (2 ^ 128 - 1) (concatenated x (8 * n) c) s f.times f.whole lt f.zero_only)

-- a word turned left
shl_low : (s d k : ℕ) → s * 2 ^ k % 2 ^ (d + k) ≡ (s % 2 ^ d) * 2 ^ k
shl_low s d k =
    let parts : s / 2 ^ d * 2 ^ d + s % 2 ^ d ≡ s = div-add-mod' s (2 ^ d) in
    let e : s * 2 ^ k ≡ s / 2 ^ d * 2 ^ (d + k) + ((s % 2 ^ d) * 2 ^ k + 0) = rw (pow-add 2 d k) (omega (arith, ap (λ (i : ℕ). i * 2 ^ k) parts)) in
    let small : (s % 2 ^ d) * 2 ^ k + 0 < 2 ^ (d + k) = rw (pow-add 2 d k) (digits_lt (mod-lt s (pow_pos d)) (pow_pos k)) in
    ap (λ (i : ℕ). i % 2 ^ (d + k)) e ∙ digits_mod (s / 2 ^ d) small ∙ omega arith

pub turned_left : (s d k : ℕ) → s * 2 ^ k ≡ s * 2 ^ k % 2 ^ (d + k) + s / 2 ^ d + s / 2 ^ d * (2 ^ (d + k) - 1)
turned_left s d k =
    let parts : s / 2 ^ d * 2 ^ d + s % 2 ^ d ≡ s = div-add-mod' s (2 ^ d) in
    let scaled : (s / 2 ^ d * 2 ^ d + s % 2 ^ d) * 2 ^ k ≡ s * 2 ^ k = ap (λ (i : ℕ). i * 2 ^ k) parts in
    let top : 2 ^ (d + k) ≡ 2 ^ d * 2 ^ k = pow-add 2 d k in
    let one : 2 ^ (d + k) - 1 + 1 ≡ 2 ^ (d + k) = omega (arith, pow_pos (d + k)) in
    let more : s / 2 ^ d * (2 ^ (d + k) - 1 + 1) ≡ s / 2 ^ d * (2 ^ d * 2 ^ k) = ap (λ (i : ℕ). s / 2 ^ d * i) (one ∙ top) in
    omega (arith, shl_low s d k, scaled, more)

pub turned_left_lt : (s d k : ℕ) → s < 2 ^ (d + k) → s * 2 ^ k % 2 ^ (d + k) + s / 2 ^ d < 2 ^ (d + k)
turned_left_lt s d k h =
    let e : k + d ≡ d + k = omega arith in
    let top : s / 2 ^ d < 2 ^ k = shr_below s k d (rw e h) in
    rw (shl_low s d k, pow-add 2 d k) (digits_lt (mod-lt s (pow_pos d)) top)

-- ---- the number of the octets
pub number_more : (xs : List ℕ) (i : ℕ) → i < length xs → number (take (i + 1) xs) ≡ number (take i xs) * 256 + get_or xs i 0
number_more xs i h =
    let e : take (i + 1) xs ≡ take i xs ++ (get_or xs i 0 ∷ []) = ap (λ (k : ℕ). take k xs) (add-one i) ∙ take-suc xs i 0 h in
    let last : number (get_or xs i 0 ∷ []) ≡ get_or xs i 0 = rw (number-cons, worth-zero, number-nil) (omega arith) in
    let scale : worth (length (get_or xs i 0 ∷ [])) ≡ 256 = rw (worth-suc, worth-zero) refl in
    ap number e ∙ number-append (take i xs) (get_or xs i 0 ∷ []) ∙ rw (last, scale) refl

pub number_below : (xs : List ℕ) (k : ℕ) → IsOctets xs → k ≡ 8 * length xs → number xs < 2 ^ k
number_below xs k h e = rw (e, ← worth_pow) (number_lt xs h)

pub number_fits : (xs : List ℕ) (i : ℕ) → IsOctets xs → i < length xs → length xs ≤ 8 → number (take i xs) * 256 + get_or xs i 0 < 2 ^ 64
number_fits xs i h lt few =
    let size : length (take (i + 1) xs) ≡ i + 1 = length-take-le (i + 1) xs (omega arith) in
    let below : number (take (i + 1) xs) < 2 ^ (8 * (i + 1)) = number_below (take (i + 1) xs) (8 * (i + 1)) (AreBelow-take (i + 1) xs h) (ap (λ (k : ℕ). 8 * k) (sym size)) in
    let most : 2 ^ (8 * (i + 1)) ≤ 2 ^ 64 = pow_mono {i = 8 * (i + 1)} {j = 64} (omega arith) in
    omega (arith, below, most, number_more xs i lt)

pub twice_fits : (x k : ℕ) → x < 2 ^ k → k ≤ 64 → x * 2 ^ k + x < 2 ^ 128
twice_fits x k h few =
    let lt : x * 2 ^ k + x < 2 ^ k * 2 ^ k = digits_lt h h in
    let top : 2 ^ (k + k) ≡ 2 ^ k * 2 ^ k = pow-add 2 k k in
    let most : 2 ^ (k + k) ≤ 2 ^ 128 = pow_mono {i = k + k} {j = 128} (omega arith) in
    omega (arith, lt, top, most)

pub twice_whole : (x k : ℕ) → x < 2 ^ k → k ≤ 64 → x * 2 ^ k % 2 ^ 128 + x ≡ x * 2 ^ k + x
twice_whole x k h few = ap (λ (i : ℕ). i + x) (mod-eq_of_lt (omega (arith, twice_fits x k h few)))

pub low_mask : (n k : ℕ) → k < 128 → bit_and n (1 * 2 ^ k % 2 ^ 128 - 1) ≡ n % 2 ^ k
low_mask n k h =
    let double : 2 ^ (k + 1) ≡ 2 ^ k * 2 = pow-add 2 k 1 in
    let most : 2 ^ (k + 1) ≤ 2 ^ 128 = pow_mono {i = k + 1} {j = 128} (omega arith) in
    let lt : 1 * 2 ^ k < 2 ^ 128 = omega (arith, double, most, pow_pos k) in
    let e : 1 * 2 ^ k % 2 ^ 128 ≡ 2 ^ k = mod-eq_of_lt lt ∙ omega arith in
    ap (λ (i : ℕ). bit_and n (i - 1)) e ∙ and_mask n k

pub word_left : (s k : ℕ) → k < 128 → s * 2 ^ k ≡ s * 2 ^ k % 2 ^ 128 + s / 2 ^ (128 - k) + s / 2 ^ (128 - k) * (2 ^ 128 - 1)
word_left s k h =
    let e : (128 - k) + k ≡ 128 = omega arith in
    subst (λ (n : ℕ). s * 2 ^ k ≡ s * 2 ^ k % 2 ^ n + s / 2 ^ (128 - k) + s / 2 ^ (128 - k) * (2 ^ n - 1)) e (turned_left s (128 - k) k)

pub word_left_lt : (s k : ℕ) → k < 128 → s < 2 ^ 128 → s * 2 ^ k % 2 ^ 128 + s / 2 ^ (128 - k) < 2 ^ 128
word_left_lt s k h lt =
    let e : (128 - k) + k ≡ 128 = omega arith in
    let below : s < 2 ^ ((128 - k) + k) = subst (λ (n : ℕ). s < 2 ^ n) (sym e) lt in
    subst (λ (n : ℕ). s * 2 ^ k % 2 ^ n + s / 2 ^ (128 - k) < 2 ^ n) e (turned_left_lt s (128 - k) k below)

-- the octets of the word
pub folded_word : (out xs : List ℕ) (w size : ℕ) → size ≡ 16 → w ≡ folded_number (number xs) (8 * length xs) 128 → out ≡ bytes_high_first 16 w → out ≡ fold xs (8 * size)
unfolding fold
folded_word out xs w size es ew eo = rw (es, eo, ew) refl
