-- Vectors of 16 octets as lists of lanes, each a function of the lanes of one vector.
use Rattle.std.proofs.Common.{◌≡◌, ℕ, ◌+◌, ◌*◌, ◌/◌, ◌<◌, Bool, true, ◌&&◌, cond, leb, List, [], ◌∷◌, map, length, get_or, bit_xor, refl, sym, ap, ◌∙◌, arith, w8, Fits}
use Rattle.std.proofs.lemmas.Bool.{and_parts}
use Rattle.std.proofs.lemmas.Float.{T_from_true}
use Rattle.std.proofs.lemmas.List.{get_or-map, length-map, ext_get_or}
use Rattle.std.proofs.lemmas.Simd.{Each1-weaker, SwzOk, SwzOk-from_Each1, swz_l, length-swz_l, get_or-swz_l, zip2_of_maps}
use lib.Lanes.{zip2, Each1}
use Rattle.krb_crypto_block.proofs.Tables.{all_below, all_below_at, same_below, same_below_at}
use Rattle.krb_crypto_block.specs.AesLanes.{is_index, AreIndices, permute_at, first_index, second_index, looked_up_at}

abbrev pub AreOctets : List ℕ → Type 0
AreOctets v = (length v ≡ 16) × Each1 (Fits w8) v

pub permuted_ok : (at : List ℕ) → length at ≡ 16 → AreIndices at → SwzOk w8 16 16 0 at
permuted_ok at long are =
    SwzOk-from_Each1 w8 16 1 16 0 at refl (omega arith) (Each1-weaker _ _ (λ j h. T_from_true _ h) at are)

pub permuted_is : (t at : List ℕ) → length at ≡ 16 → swz_l w8 16 t 0 at ≡ map (permute_at t) at
permuted_is t at long =
    ext_get_or 0 _ _ (length-swz_l w8 16 t 0 at ∙ sym (length-map at (permute_at t))) (λ i h.
    let within : i < length at = omega (arith, length-swz_l w8 16 t 0 at) in
    let j = get_or at i 0 in
    let lane : 16 * ((0 + i) / 16) + j ≡ j = omega arith in
    get_or-swz_l w8 16 t 0 at i within
    ∙ ap (λ k. cond (leb 128 j) 0 (get_or t k 0)) lane
    ∙ sym (get_or-map (permute_at t) at i 0 0 within))

-- what holds of each octet holds of each lane
pub each_lane : (p : ℕ → Bool) (g : ℕ → ℕ) (v : List ℕ) → Each1 (Fits w8) v → all_below (λ x. p (g x)) 256 ≡ true → Each1 (λ j. p j ≡ true) (map g v)
each_lane p g [] fits test = tt
each_lane p g (x ∷ xs) fits test = (all_below_at (λ y. p (g y)) 256 x test fits.0.fits, each_lane p g xs fits.1 test)

pub indices_of : (g : ℕ → ℕ) (v js : List ℕ) → Each1 (Fits w8) v → js ≡ map g v → all_below (λ x. is_index (g x)) 256 ≡ true → AreIndices js
indices_of g v js fits is test = rw is (each_lane is_index g v fits test)

-- the test holds of each of these positions
abbrev pub all_indices : List ℕ → Bool
all_indices [] = true
all_indices (j ∷ js) = is_index j && all_indices js

pub indices_by_test : (js at : List ℕ) → at ≡ js → all_indices js ≡ true → AreIndices at
indices_by_test js at e test = rw e (go js test)
  where
    go : (js : List ℕ) → all_indices js ≡ true → AreIndices js
    go [] test = tt
    go (j ∷ js) test =
        let parts = and_parts (is_index j) (all_indices js) test in
        (parts.0, go js parts.1)

pub map_of_map : (f g : ℕ → ℕ) (v ws : List ℕ) → ws ≡ map g v → map f ws ≡ map (λ x. f (g x)) v
map_of_map f g v ws e = ap (map f) e ∙ go v
  where
    go : (v : List ℕ) → map f (map g v) ≡ map (λ x. f (g x)) v
    go [] = refl
    go (x ∷ xs) = ap (λ (l : List ℕ). f (g x) ∷ l) (go xs)

-- ---- the inversion_indices

pub are_inversion_indices : (x u v : List ℕ) → Each1 (Fits w8) x → (u ≡ map first_index x) × (v ≡ map second_index x) → AreIndices u × AreIndices v
are_inversion_indices x u v fits e = (indices_of first_index x u fits e.0 refl, indices_of second_index x v fits e.1 refl)

pub looked_up_is : (s t x u v : List ℕ) → (u ≡ map first_index x) × (v ≡ map second_index x)
    → zip2 bit_xor (map (permute_at s) u) (map (permute_at t) v) ≡ map (looked_up_at s t) x
looked_up_is s t x u v e =
    zip2_of_maps bit_xor (λ a. permute_at s (first_index a)) (λ a. permute_at t (second_index a)) x
    (map_of_map (permute_at s) first_index x u e.0) (map_of_map (permute_at t) second_index x v e.1)

-- two functions that agree on octets
pub map_same : (f g : ℕ → ℕ) (v : List ℕ) → Each1 (Fits w8) v → same_below f g 256 ≡ true → map f v ≡ map g v
map_same f g [] fits test = refl
map_same f g (x ∷ xs) fits test =
    ap (λ (y : ℕ). y ∷ map f xs) (same_below_at f g 256 x test fits.0.fits)
    ∙ ap (λ (l : List ℕ). g x ∷ l) (map_same f g xs fits.1 test)
