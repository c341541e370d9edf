-- Permutations as exchanges of bits.
use Rattle.std.proofs.Common.{◌≡◌, ℕ, ◌+◌, ◌-◌, ◌*◌, ◌/◌, ◌%◌, ◌^◌, ◌<◌, ◌≤◌, ◌==◌, ◌&&◌, Bool, true, false, nat_le, nat_lt, min, List, map, slice_index, bit_xor, refl, sym, ap, ◌∙◌, arith, inl, inr}
use Rattle.std.specs.Prelude.{if◌then◌else◌}
use Rattle.std.specs.Int.{bit_at}
use Rattle.std.specs.Int.Bits.{bit_and}
use Rattle.std.specs.List.{range_with_len}
use Rattle.std.proofs.Math.Nat.{mod-eq_of_lt, mul-le-mul_right, add-zero}
use Rattle.std.proofs.lemmas.Bool.{cases_lt, and_parts, eqb-true, leb-true, ltb-true}
use Rattle.std.proofs.lemmas.Bool.Decides.{nat_tests}
use Rattle.std.proofs.lemmas.List.FromFn.{fill_by_all}
use Rattle.std.proofs.lemmas.Nat.{and_le_r, shr-shr, pow_pos}
use Rattle.std.proofs.lemmas.Nat.Bits.{bit_at_and, bit_at_xor, bit_at-lt, bit_at-zero, bit_at_cat_low, bit_at_cat_high}
use Rattle.krb_crypto_block.specs.DesTables.{initial_table, final_table}
use Rattle.krb_crypto_block.specs.Des.{bits, permuted, exchanged_place}
use Rattle.krb_crypto_block.proofs.DesBits.{length-bits, slice_index-bits}
use Rattle.krb_crypto_block.proofs.Tables.{all_below, all_below_at}

-- ---- one exchange

chosen : (g : ℕ → ℕ) (t u : Bool) (a b c r : ℕ) → (t ≡ true → r ≡ g a) → (t ≡ false → u ≡ true → r ≡ g b) → (t ≡ false → u ≡ false → r ≡ g c)
    → r ≡ g (if t then a else if u then b else c)
chosen g true u a b c r h1 h2 h3 = h1 refl
chosen g false true a b c r h1 h2 h3 = h2 refl refl
chosen g false false a b c r h1 h2 h3 = h3 refl refl

-- bit k of a number moved to the left
bit_at_shl_low : (t s k : ℕ) → k < s → bit_at (t * 2 ^ s) k ≡ 0
bit_at_shl_low t s k lt = ap (λ n. bit_at n k) (sym (add-zero (t * 2 ^ s))) ∙ bit_at_cat_low t s 0 k lt ∙ bit_at-zero k

bit_at_shl_high : (t s k : ℕ) → s ≤ k → bit_at (t * 2 ^ s) k ≡ bit_at t (k - s)
bit_at_shl_high t s k le =
    let pos : 0 < 2 ^ s = pow_pos s in
    ap (λ n. bit_at n k) (sym (add-zero (t * 2 ^ s))) ∙ bit_at_cat_high t s 0 k pos le

-- the bits that differ, where the mask has a one
differing_bit : (x s m j : ℕ) → bit_at (bit_and (bit_xor (x / 2 ^ s) x) m) j ≡ min ((bit_at x (s + j) + bit_at x j) % 2) (bit_at m j)
differing_bit x s m j =
    let moved : bit_at (x / 2 ^ s) j ≡ bit_at x (s + j) = ap (λ n. n % 2) (shr-shr x s j) in
    bit_at_and (bit_xor (x / 2 ^ s) x) m j ∙ ap (λ n. min n (bit_at m j)) (bit_at_xor (x / 2 ^ s) x j ∙ ap (λ n. (n + bit_at x j) % 2) moved)

not_one : (n : ℕ) → (n == 1) ≡ false → n < 2 → n ≡ 0
not_one n e lt = grind (arith, nat_tests)

neither : (s k m : ℕ) → (nat_le s k && (m == 1)) ≡ false → s ≤ k → m < 2 → m ≡ 0
neither s k m e le lt = grind (arith, nat_tests)

-- a bit and the one that it changes places with, of which the mask names none, the right one or the left one
none_named : (a b c m n : ℕ) → a < 2 → m ≡ 0 → n ≡ 0 → ((a + min ((b + a) % 2) m) % 2 + min ((a + c) % 2) n) % 2 ≡ a
none_named a b c m n la em en = omega arith

right_named : (a b c m n : ℕ) → a < 2 → b < 2 → m ≡ 1 → n ≡ 0 → ((a + min ((b + a) % 2) m) % 2 + min ((a + c) % 2) n) % 2 ≡ b
right_named a b c m n la lb em en = omega arith

left_named : (a b c m n : ℕ) → a < 2 → c < 2 → m ≡ 0 → n ≡ 1 → ((a + min ((b + a) % 2) m) % 2 + min ((a + c) % 2) n) % 2 ≡ c
left_named a b c m n la lc em en = omega arith

pub exchange_bit : (x s m k : ℕ) → k < 64 → m * 2 ^ s < 2 ^ 64 → bit_and m (m * 2 ^ s) ≡ 0
    → bit_at (bit_xor (bit_xor x (bit_and (bit_xor (x / 2 ^ s) x) m)) (bit_and (bit_xor (x / 2 ^ s) x) m * 2 ^ s % 2 ^ 64)) k ≡ bit_at x (exchanged_place s m k)
exchange_bit x s m k lt room apart =
    let t : ℕ = bit_and (bit_xor (x / 2 ^ s) x) m in
    let small : t * 2 ^ s ≤ m * 2 ^ s = mul-le-mul_right (2 ^ s) (and_le_r (bit_xor (x / 2 ^ s) x) m) in
    let fits : t * 2 ^ s < 2 ^ 64 = omega arith in
    let whole : t * 2 ^ s % 2 ^ 64 ≡ t * 2 ^ s = mod-eq_of_lt fits in
    let sum : bit_at (bit_xor (bit_xor x t) (t * 2 ^ s % 2 ^ 64)) k ≡ ((bit_at x k + bit_at t k) % 2 + bit_at (t * 2 ^ s) k) % 2 =
    bit_at_xor (bit_xor x t) (t * 2 ^ s % 2 ^ 64) k ∙ ap (λ n. (n + bit_at (t * 2 ^ s % 2 ^ 64) k) % 2) (bit_at_xor x t k) ∙ ap (λ n. ((bit_at x k + bit_at t k) % 2 + bit_at n k) % 2) whole in
    let only : min (bit_at m k) (bit_at (m * 2 ^ s) k) ≡ 0 = sym (bit_at_and m (m * 2 ^ s) k) ∙ ap (λ n. bit_at n k) apart ∙ bit_at-zero k in
    let bx : bit_at x k < 2 = bit_at-lt x k in
    let bm : bit_at m k < 2 = bit_at-lt m k in
    let here : bit_at t k ≡ min ((bit_at x (s + k) + bit_at x k) % 2) (bit_at m k) = differing_bit x s m k in
    let turned : bit_at x (s + k) ≡ bit_at x (k + s) = ap (bit_at x) (omega arith) in
    sum ∙ ap (λ n. ((bit_at x k + n) % 2 + bit_at (t * 2 ^ s) k) % 2) here ∙ elim (cases_lt k s) [
      | inl below ↦
          let low : bit_at (t * 2 ^ s) k ≡ min ((bit_at x k + 0) % 2) 0 = bit_at_shl_low t s k below ∙ omega arith in
          ap (λ n. ((bit_at x k + min ((bit_at x (s + k) + bit_at x k) % 2) (bit_at m k)) % 2 + n) % 2) low
          ∙ chosen (bit_at x) (bit_at m k == 1) (nat_le s k && (bit_at m (k - s) == 1)) (k + s) (k - s) k _
          (λ e. right_named (bit_at x k) (bit_at x (s + k)) 0 (bit_at m k) 0 bx (bit_at-lt x (s + k)) (eqb-true (bit_at m k) 1 e) refl ∙ turned)
          (λ e u. absurd (let le : s ≤ k = leb-true s k (and_parts (nat_le s k) (bit_at m (k - s) == 1) u).0 in omega arith))
          (λ e u. none_named (bit_at x k) (bit_at x (s + k)) 0 (bit_at m k) 0 bx (not_one (bit_at m k) e bm) refl)
      | inr above ↦
          let back : s + (k - s) ≡ k = omega arith in
          let there : bit_at t (k - s) ≡ min ((bit_at x k + bit_at x (k - s)) % 2) (bit_at m (k - s)) =
          differing_bit x s m (k - s) ∙ ap (λ n. min ((bit_at x n + bit_at x (k - s)) % 2) (bit_at m (k - s))) back in
          let mask : bit_at (m * 2 ^ s) k ≡ bit_at m (k - s) = bit_at_shl_high m s k above in
          let alone : min (bit_at m k) (bit_at m (k - s)) ≡ 0 = ap (min (bit_at m k)) (sym mask) ∙ only in
          let bn : bit_at m (k - s) < 2 = bit_at-lt m (k - s) in
          ap (λ n. ((bit_at x k + min ((bit_at x (s + k) + bit_at x k) % 2) (bit_at m k)) % 2 + n) % 2) (bit_at_shl_high t s k above ∙ there)
          ∙ chosen (bit_at x) (bit_at m k == 1) (nat_le s k && (bit_at m (k - s) == 1)) (k + s) (k - s) k _
          (λ e. let one : bit_at m k ≡ 1 = eqb-true (bit_at m k) 1 e in
          right_named (bit_at x k) (bit_at x (s + k)) (bit_at x (k - s)) (bit_at m k) (bit_at m (k - s)) bx (bit_at-lt x (s + k)) one (omega arith) ∙ turned)
          (λ e u. left_named (bit_at x k) (bit_at x (s + k)) (bit_at x (k - s)) (bit_at m k) (bit_at m (k - s)) bx (bit_at-lt x (k - s)) (not_one (bit_at m k) e bm)
          (eqb-true (bit_at m (k - s)) 1 (and_parts (nat_le s k) (bit_at m (k - s) == 1) u).1))
          (λ e u. none_named (bit_at x k) (bit_at x (s + k)) (bit_at x (k - s)) (bit_at m k) (bit_at m (k - s)) bx (not_one (bit_at m k) e bm) (neither s k (bit_at m (k - s)) u above bn))
    ]

-- ---- several exchanges

-- bit k of y is the bit of x at place p k
pub record ArePlaced (p : ℕ → ℕ) (x y : ℕ) : Type 0 where
  pub within : (k : ℕ) → k < 64 → p k < 64
  pub same : (k : ℕ) → k < 64 → bit_at y k ≡ bit_at x (p k)

pub placed : (p : ℕ → ℕ) (x y : ℕ) → all_below (λ k. nat_lt (p k) 64) 64 ≡ true → ((k : ℕ) → k < 64 → bit_at y k ≡ bit_at x (p k)) → ArePlaced p x y
placed p x y test h = record { within = λ k lt. ltb-true (p k) 64 (all_below_at (λ j. nat_lt (p j) 64) 64 k test lt); same = h }

pub placed_again : (p q : ℕ → ℕ) (x y z : ℕ) → ArePlaced p x y → ArePlaced q y z → ArePlaced (λ k. p (q k)) x z
placed_again p q x y z h g = record {
  within = λ k lt. h.within (q k) (g.within k lt);
  same = λ k lt. g.same k lt ∙ h.same (q k) (g.within k lt);
}

-- the table that takes the bits from these places
abbrev pub from_places : (ℕ → ℕ) → List ℕ → List ℕ
from_places p xs = map (λ i. slice_index xs (63 - p (63 - i))) (range_with_len 0 64)

pub placed_bits : (p : ℕ → ℕ) (x y : ℕ) → ArePlaced p x y → bits 64 y ≡ from_places p (bits 64 x)
placed_bits p x y h = fill_by_all (λ i. slice_index (bits 64 x) (63 - p (63 - i))) (bits 64 y) 64 0 (length-bits 64 y) (λ i lt.
    let inside : p (63 - i) < 64 = h.within (63 - i) (omega arith) in
    slice_index-bits 64 y i (63 - i) (omega arith) ∙ h.same (63 - i) (omega arith) ∙ sym (slice_index-bits 64 x (63 - p (63 - i)) (p (63 - i)) (omega arith)))

-- ---- the first and the last permutation

abbrev fours : ℕ → ℕ
fours k = exchanged_place 36 0x0f0f0f0f k

abbrev halves : ℕ → ℕ
halves k = exchanged_place 48 0xffff k

abbrev twos : ℕ → ℕ
twos k = exchanged_place 30 0xcccccccc k

abbrev octets : ℕ → ℕ
octets k = exchanged_place 24 0xff00ff00 k

abbrev ones : ℕ → ℕ
ones k = exchanged_place 33 0x55555555 k

initial_places : (xs : List ℕ) → from_places (λ k. fours (halves (twos (octets (ones k))))) xs ≡ permuted initial_table xs
unfolding initial_table
initial_places xs = refl

final_places : (xs : List ℕ) → from_places (λ k. ones (octets (twos (halves (fours k))))) xs ≡ permuted final_table xs
unfolding final_table
final_places xs = refl

abbrev IsExchanged : (ℕ → ℕ) → ℕ → ℕ → Type 0
IsExchanged p x y = (k : ℕ) → k < 64 → bit_at y k ≡ bit_at x (p k)

pub first_exchanges : (x a b c d y : ℕ) → IsExchanged fours x a → IsExchanged halves a b → IsExchanged twos b c → IsExchanged octets c d → IsExchanged ones d y
    → bits 64 y ≡ permuted initial_table (bits 64 x)
first_exchanges x a b c d y ha hb hc hd hy =
    let pa : ArePlaced fours x a = placed fours x a refl ha in
    let pb : ArePlaced (λ k. fours (halves k)) x b = placed_again fours halves x a b pa (placed halves a b refl hb) in
    let pc : ArePlaced (λ k. fours (halves (twos k))) x c = placed_again (λ k. fours (halves k)) twos x b c pb (placed twos b c refl hc) in
    let pd : ArePlaced (λ k. fours (halves (twos (octets k)))) x d = placed_again (λ k. fours (halves (twos k))) octets x c d pc (placed octets c d refl hd) in
    let py : ArePlaced (λ k. fours (halves (twos (octets (ones k))))) x y = placed_again (λ k. fours (halves (twos (octets k)))) ones x d y pd (placed ones d y refl hy) in
    placed_bits (λ k. fours (halves (twos (octets (ones k))))) x y py ∙ initial_places (bits 64 x)

pub last_exchanges : (x a b c d y : ℕ) → IsExchanged ones x a → IsExchanged octets a b → IsExchanged twos b c → IsExchanged halves c d → IsExchanged fours d y
    → bits 64 y ≡ permuted final_table (bits 64 x)
last_exchanges x a b c d y ha hb hc hd hy =
    let pa : ArePlaced ones x a = placed ones x a refl ha in
    let pb : ArePlaced (λ k. ones (octets k)) x b = placed_again ones octets x a b pa (placed octets a b refl hb) in
    let pc : ArePlaced (λ k. ones (octets (twos k))) x c = placed_again (λ k. ones (octets k)) twos x b c pb (placed twos b c refl hc) in
    let pd : ArePlaced (λ k. ones (octets (twos (halves k)))) x d = placed_again (λ k. ones (octets (twos k))) halves x c d pc (placed halves c d refl hd) in
    let py : ArePlaced (λ k. ones (octets (twos (halves (fours k))))) x y = placed_again (λ k. ones (octets (twos (halves k)))) fours x d y pd (placed fours d y refl hy) in
    placed_bits (λ k. ones (octets (twos (halves (fours k))))) x y py ∙ final_places (bits 64 x)
