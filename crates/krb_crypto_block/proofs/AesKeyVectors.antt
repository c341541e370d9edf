-- Round keys as vectors.
use Rattle.std.proofs.Common.{◌≡◌, ◌≢◌, ℕ, ◌+◌, ◌-◌, ◌*◌, ◌<◌, ◌≤◌, bit_xor, List, [], ◌∷◌, map, length, slice_index, refl, sym, ap, ◌∙◌, arith, inl, inr, set, replicate}
use Rattle.std.proofs.lemmas.List.{get_or-map, get_or-set_same, get_or-set_other, length-set, length-map}
use Rattle.std.proofs.lemmas.Bool.{cases_lt}
use lib.Lanes.{zip2}
use Rattle.krb_crypto_block.specs.Modes.{IsOctets, IsBlock}
use Rattle.krb_crypto_block.proofs.AesStates.{state_octets}
use Rattle.krb_crypto_block.specs.AesLanes.{tower, with_constant, inverse_linear, inverse_form, round_octets, lanes_at, AreRoundKeys, AreRoundKeysBelow}
use Rattle.krb_crypto_block.specs.declared.aes.round_keys.RoundKey.{RoundKey}
use Rattle.std.proofs.lemmas.Simd.{zip2_splat}
use Rattle.krb_crypto_block.proofs.AesTower.{tower_xor}
use Rattle.krb_crypto_block.proofs.AesInverseForm.{inverse_linear_xor}

set_same : (keys : List RoundKey) (n : ℕ) (k : RoundKey) → n < length keys → lanes_at (set keys n k) n ≡ k.lanes
set_same keys n k lt =
    get_or-map (λ (x : RoundKey). x.lanes) (set keys n k) n k [] (omega (arith, length-set keys n k))
    ∙ ap (λ (x : RoundKey). x.lanes) (get_or-set_same keys n k k lt)

set_other : (keys : List RoundKey) (n m : ℕ) (k : RoundKey) → m < length keys → m ≢ n → lanes_at (set keys n k) m ≡ lanes_at keys m
set_other keys n m k lt other =
    get_or-map (λ (x : RoundKey). x.lanes) (set keys n k) m k [] (omega (arith, length-set keys n k))
    ∙ ap (λ (x : RoundKey). x.lanes) (get_or-set_other keys n m k k other)
    ∙ sym (get_or-map (λ (x : RoundKey). x.lanes) keys m k [] lt)

-- the first, before the second or the third
pub keys_start : (first : List ℕ) (between : ℕ → List ℕ) (keys : List RoundKey) (n : ℕ) (second k : RoundKey) → length keys ≡ 15 → 1 ≤ n → n ≤ 2
    → k.lanes ≡ first → (n ≡ 2 → second.lanes ≡ between 1) → AreRoundKeysBelow first between (set (set keys (n - 1) second) 0 k) n
keys_start first between keys n second k long from few here there =
    let keys' : List RoundKey = set keys (n - 1) second in
    let long' : length keys' ≡ 15 = length-set keys (n - 1) second ∙ long in
    record {
      first_is = set_same keys' 0 k (omega arith) ∙ here;
      between_are = λ m low high.
          let one : m ≡ 1 = omega arith in
          let same : n - 1 ≡ 1 = omega arith in
          let made : lanes_at (set keys (n - 1) second) 1 ≡ second.lanes = rw same (set_same keys 1 second (omega arith)) in
          rw one (set_other keys' 0 1 k (omega arith) (omega arith) ∙ made ∙ there (omega arith));
    }

-- one more, between the first and the last
pub keys_more : (first : List ℕ) (between : ℕ → List ℕ) (keys : List RoundKey) (n : ℕ) (k : RoundKey) → length keys ≡ 15 → 1 ≤ n → n < 15
    → AreRoundKeysBelow first between keys n → k.lanes ≡ between n → AreRoundKeysBelow first between (set keys n k) (n + 1)
keys_more first between keys n k long from lt before made =
    record {
      first_is = set_other keys n 0 k (omega arith) (omega arith) ∙ before.first_is;
      between_are = λ m low high. elim (cases_lt m n) [
        | inl below ↦ set_other keys n m k (omega arith) (omega arith) ∙ before.between_are m low below
        | inr top ↦
            let e : n ≡ m = omega arith in
            rw (← e) (set_same keys n k (omega arith) ∙ made)
      ];
    }

-- and the last
pub keys_done : (first : List ℕ) (between : ℕ → List ℕ) (last : List ℕ) (keys : List RoundKey) (n : ℕ) (k : RoundKey) → length keys ≡ 15 → 1 ≤ n → n < 15
    → AreRoundKeysBelow first between keys n → k.lanes ≡ last → AreRoundKeys first between last (set keys n k) n
keys_done first between last keys n k long from lt before made =
    record {
      first_is = set_other keys n 0 k (omega arith) (omega arith) ∙ before.first_is;
      between_are = λ m low high. set_other keys n m k (omega arith) (omega arith) ∙ before.between_are m low high;
      last_is = set_same keys n k (omega arith) ∙ made;
    }

pub key_block : (w : List ℕ) (n : ℕ) → IsOctets w → IsBlock 16 (round_octets w n)
key_block w n octets = (refl, (state_octets (λ r c. slice_index w (16 * n + (r + 4 * c))) (λ r c hr hc. octets (16 * n + (r + 4 * c)))).octets)

-- an octet in inverse form with the constant added: 0x2c is that of 0x63
pub inverse_form_constant : (b : ℕ) → bit_xor (inverse_linear b) 0x2c ≡ inverse_form b
unfolding inverse_linear
inverse_form_constant b = sym (inverse_linear_xor b 0x63)

pub map_constant : (v : List ℕ) → length v ≡ 16 → zip2 bit_xor (map inverse_linear v) (replicate 16 0x2c) ≡ map inverse_form v
map_constant v long = zip2_splat bit_xor (map inverse_linear v) 16 0x2c (length-map v inverse_linear ∙ long) ∙ go v
  where
    go : (v : List ℕ) → map (λ x. bit_xor x 0x2c) (map inverse_linear v) ≡ map inverse_form v
    go [] = refl
    go (x ∷ xs) = ap (λ (y : ℕ). y ∷ map (λ x. bit_xor x 0x2c) (map inverse_linear xs)) (inverse_form_constant x) ∙ ap (λ (l : List ℕ). inverse_form x ∷ l) (go xs)

-- the same of the tower form: 0x6e is that of 0x63
tower_constant : (k : ℕ) → bit_xor (tower k) 0x6e ≡ tower (with_constant k)
unfolding tower
tower_constant k = sym (tower_xor k 0x63)

pub map_tower_constant : (v : List ℕ) → length v ≡ 16 → zip2 bit_xor (map tower v) (replicate 16 0x6e) ≡ map (λ k. tower (with_constant k)) v
map_tower_constant v long = zip2_splat bit_xor (map tower v) 16 0x6e (length-map v tower ∙ long) ∙ go v
  where
    go : (v : List ℕ) → map (λ x. bit_xor x 0x6e) (map tower v) ≡ map (λ k. tower (with_constant k)) v
    go [] = refl
    go (x ∷ xs) = ap (λ (y : ℕ). y ∷ map (λ x. bit_xor x 0x6e) (map tower xs)) (tower_constant x) ∙ ap (λ (l : List ℕ). tower (with_constant x) ∷ l) (go xs)
