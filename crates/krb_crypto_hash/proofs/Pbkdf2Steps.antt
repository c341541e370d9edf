-- The steps of PBKDF2: its blocks, and the rounds of each.
use Rattle.std.proofs.Common.{◌≡◌, ℕ, zero, suc, ◌+◌, ◌-◌, ◌*◌, ◌/◌, ◌%◌, ◌<◌, ◌≤◌, List, [], ◌++◌, length, take, drop, bit_xor, slice_index, refl, sym, ap, min, ◌∙◌, ◌⊎◌, arith, add-one, inl, inr}
use Rattle.std.specs.Int.{w32, to_be_bytes, bit_at}
use Rattle.std.proofs.lemmas.List.{append-nil, length-append, length-drop, length-take-le, get_or_append_left, get_or-append_right, get_or-take}
use Rattle.std.proofs.lemmas.Bool.{cases_lt}
use Rattle.std.proofs.lemmas.Nat.Bits.{bit_at_xor}
use Rattle.std.proofs.lemmas.Grind.{div_ceil_times}
use Rattle.std.proofs.Math.Arith.{digits_div, digits_mod}
use Rattle.std.proofs.Math.Nat.{mul_comm, mul-suc, mul-le-mul_right}
use Rattle.std.proofs.lemmas.Nat.{xor_comm}
use Rattle.krb_crypto_hash.specs.Xor.{xor_lists, padded_to}
use Rattle.krb_crypto_hash.specs.Pbkdf2.{chain, count_bits}
use Rattle.krb_crypto_hash.proofs.XorLists.{get_or-xor_lists, padded_whole}

-- two blocks, combined octet by octet
pub xored_at : (size : ℕ) (new sum u : List ℕ) → length sum ≡ size → length u ≡ size → new ≡ xor_lists (padded_to size u) sum → (k : ℕ) → slice_index new k ≡ bit_xor (slice_index sum k) (slice_index u k)
xored_at size new sum u ls lu e k =
    ap (λ (j : List ℕ). slice_index j k) (e ∙ ap (λ (j : List ℕ). xor_lists j sum) (padded_whole size u lu))
    ∙ get_or-xor_lists u sum k (lu ∙ sym ls) ∙ xor_comm (slice_index u k) (slice_index sum k)

-- ---- the rounds
pub chain-first : (prf : List ℕ → List ℕ → List ℕ) (p s last : List ℕ) (i : ℕ) → last ≡ prf p (s ++ to_be_bytes w32 i) → last ≡ chain prf p s i 0
unfolding chain
chain-first prf p s last i e = e

pub chain_next : (prf : List ℕ → List ℕ → List ℕ) (p s last next : List ℕ) (i r : ℕ) → last ≡ chain prf p s i (r - 1) → 1 ≤ r → next ≡ prf p (last ++ []) → next ≡ chain prf p s i r
unfolding chain
chain_next prf p s last next i zero e h en = absurd (omega arith)
chain_next prf p s last next i (suc r) e h en =
    let one : suc r - 1 ≡ r = omega arith in
    en ∙ ap (prf p) (append-nil last ∙ e ∙ ap (chain prf p s i) one)

pub count-first : (prf : List ℕ → List ℕ → List ℕ) (p s sum : List ℕ) (i : ℕ) → sum ≡ chain prf p s i 0 → (k b : ℕ) → bit_at (slice_index sum k) b ≡ count_bits prf p s i 1 k b % 2
unfolding count_bits
count-first prf p s sum i e k b =
    let small : bit_at (slice_index (chain prf p s i 0) k) b < 2 = omega arith in
    rw e (omega (arith, small))

pub count_next : (prf : List ℕ → List ℕ → List ℕ) (p s sum new u : List ℕ) (i r : ℕ) → ((k b : ℕ) → bit_at (slice_index sum k) b ≡ count_bits prf p s i r k b % 2) → u ≡ chain prf p s i r
    → ((k : ℕ) → slice_index new k ≡ bit_xor (slice_index sum k) (slice_index u k)) → (k b : ℕ) → bit_at (slice_index new k) b ≡ count_bits prf p s i (r + 1) k b % 2
unfolding count_bits
count_next prf p s sum new u i r held eu en k b =
    let e : bit_at (slice_index new k) b ≡ (bit_at (slice_index sum k) b + bit_at (slice_index u k) b) % 2 = ap (λ j. bit_at j b) (en k) ∙ bit_at_xor (slice_index sum k) (slice_index u k) b in
    let h : bit_at (slice_index sum k) b ≡ count_bits prf p s i r k b % 2 = held k b in
    let q : bit_at (slice_index u k) b ≡ bit_at (slice_index (chain prf p s i r) k) b = ap (λ (j : List ℕ). bit_at (slice_index j k) b) eu in
    rw add-one (e ∙ rw (h, q) (omega arith))

-- ---- the blocks

one_more : (size i : ℕ) → size * (i + 1) ≡ size * i + size
one_more size i = rw add-one (mul-suc size i)

-- the smaller of two is one of them
pub is_least : (m x y : ℕ) → m ≡ min x y → (m ≡ x) ⊎ (m ≡ y)
is_least m x y e = elim (cases_lt x y) [ inl lt ↦ inl (omega arith) | inr ge ↦ inr (omega arith) ]

-- where block i begins, there are octets left to fill
pub begins : (size count i n : ℕ) → 0 < size → count ≡ n / size + min 1 (n % size) → i < count → size * i < n
begins size count i n some is low =
    let bound = div_ceil_times n size some in
    let up : (i + 1) * size ≤ count * size = mul-le-mul_right size (omega arith) in
    let next : (i + 1) * size ≡ size * i + size = mul_comm (i + 1) size ∙ one_more size i in
    let wide : count * size < n + size = rw is bound.1 in
    omega (arith, up, next, wide)

-- and after the last none
pub ends : (size count n : ℕ) → 0 < size → count ≡ n / size + min 1 (n % size) → n ≤ size * count
ends size count n some is = let wide : n ≤ count * size = rw is (div_ceil_times n size some).0 in omega (arith, wide, mul_comm size count)

-- a block is written at its place
pub derived_more : (bits : ℕ → ℕ → ℕ → ℕ) (size : ℕ) (out block : List ℕ) (i j start e : ℕ) → start ≡ size * i
    → ((k b : ℕ) → k < length out → k < size * i → bit_at (slice_index out k) b ≡ bits (k / size + 1) (k % size) b % 2)
    → ((k b : ℕ) → bit_at (slice_index block k) b ≡ bits j k b % 2) → j ≡ i + 1 → length block ≡ size
    → start ≤ e → e ≤ length out → e ≤ start + size → (new : List ℕ) → new ≡ take start out ++ (take (e - start) block ++ drop e out)
    → (e ≡ length out) ⊎ (e ≡ start + size)
    → (k b : ℕ) → k < length new → k < size * (i + 1) → bit_at (slice_index new k) b ≡ bits (k / size + 1) (k % size) b % 2
derived_more bits size out block i j start e at before here ej lb low high wide new en last k b lt kt =
    let lt1 : length (take start out) ≡ start = length-take-le start out (omega arith) in
    let lt2 : length (take (e - start) block) ≡ e - start = length-take-le (e - start) block (omega arith) in
    let next : size * (i + 1) ≡ start + size = one_more size i ∙ ap (λ (n : ℕ). n + size) (sym at) in
    let near : k < start + size = rw (sym next) kt in
    elim (cases_lt k start) [
      | inl below ↦
          let same : slice_index new k ≡ slice_index out k =
          ap (λ (l : List ℕ). slice_index l k) en ∙ get_or_append_left (take start out) (take (e - start) block ++ drop e out) 0 k (omega arith) ∙ get_or-take start out k 0 below in
          let inside : k < size * i = rw (sym at) below in
          ap (λ l. bit_at l b) same ∙ before k b (omega arith) inside
      | inr above ↦
          let len : length new ≡ start + (e - start + (length out - e)) =
          ap length en ∙ length-append (take start out) (take (e - start) block ++ drop e out) ∙ rw (lt1, length-append (take (e - start) block) (drop e out), lt2, length-drop e out) refl in
          let inside : k < e = elim last [ inl whole ↦ omega arith | inr full ↦ omega arith ] in
          let same : slice_index new k ≡ slice_index block (k - start) =
          ap (λ (l : List ℕ). slice_index l k) en ∙ get_or-append_right (take start out) (take (e - start) block ++ drop e out) start k 0 lt1 above
          ∙ get_or_append_left (take (e - start) block) (drop e out) 0 (k - start) (omega arith) ∙ get_or-take (e - start) block (k - start) 0 (omega arith) in
          let rest : k - start < size = omega arith in
          let split : k ≡ i * size + (k - start) = omega (arith, at, mul_comm i size) in
          let q : k / size + 1 ≡ j = ap (λ (n : ℕ). n / size + 1) split ∙ ap (λ (n : ℕ). n + 1) (digits_div i rest) ∙ sym ej in
          let r : k % size ≡ k - start = ap (λ (n : ℕ). n % size) split ∙ digits_mod i rest in
          ap (λ l. bit_at l b) same ∙ here (k - start) b ∙ rw (q, r) refl
    ]
