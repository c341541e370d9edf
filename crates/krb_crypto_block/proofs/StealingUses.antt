-- What callers need of ciphertext stealing: its result is one, and as long as the data.
use Rattle.std.proofs.Common.{◌≡◌, ℕ, zero, suc, ◌+◌, ◌*◌, ◌/◌, List, [], ◌∷◌, ◌++◌, length, take, refl, sym, ap, ◌∙◌, arith, length-append}
use Rattle.std.proofs.lemmas.List.{length-take-le}
use Rattle.std.specs.List.{concat}
use Rattle.krb_crypto_hash.specs.Xor.{xor_lists}
use Rattle.krb_crypto_block.specs.Modes.{zero_block, first_blocks, padded_blocks, exchanged, Cts}
use Rattle.krb_crypto_block.proofs.Chains.{chained, chained_from, CbcFrom-chained}

module _ (E : List ℕ → List ℕ) where
  blocks_are : (p c : List ℕ) (h : Cts E p c) → c ≡ take (length p) (concat (exchanged (chained E (zero_block 16) (padded_blocks 16 p))))
  blocks_are p c h = h.3 ∙ ap (λ (k : List (List ℕ)). take (length p) (concat (exchanged k))) (chained_from E (zero_block 16) (padded_blocks 16 p) h.1 h.2)

  -- a list is encrypted to one list
  pub Cts-same : (p c d : List ℕ) → Cts E p c → Cts E p d → c ≡ d
  Cts-same p c d h k = blocks_are p c h ∙ sym (blocks_are p d k)

abbrev AreWide : List (List ℕ) → Type 0
AreWide [] = Unit {0}
AreWide (x ∷ xs) = (length x ≡ 16) × AreWide xs

wide : (cs : List (List ℕ)) → AreWide cs → length (concat (exchanged cs)) ≡ 16 * length cs
unfolding exchanged
wide [] h = refl
wide (x ∷ []) h = length-append x [] ∙ omega (arith, h.0)
wide (x ∷ y ∷ []) h = length-append y (x ++ []) ∙ ap (λ (n : ℕ). length y + n) (length-append x []) ∙ omega (arith, h.0, h.1.0)
wide (x ∷ y ∷ z ∷ rest) h =
    let e : length (concat (exchanged (y ∷ z ∷ rest))) ≡ 16 * length (y ∷ z ∷ rest) = wide (y ∷ z ∷ rest) h.1 in
    length-append x (concat (exchanged (y ∷ z ∷ rest))) ∙ omega (arith, h.0, e)

chained_wide : (E : List ℕ → List ℕ) → ((b : List ℕ) → length (E b) ≡ 16) → (v : List ℕ) (ps : List (List ℕ)) → AreWide (chained E v ps)
unfolding chained
chained_wide E sized v [] = tt
chained_wide E sized v (p ∷ ps) = (sized (xor_lists p v), chained_wide E sized (E (xor_lists p v)) ps)

first_count : (n : ℕ) (p : List ℕ) → length (first_blocks 16 n p) ≡ n
unfolding first_blocks
first_count zero p = refl
first_count (suc n) p = ap suc (first_count n _)

-- what is encrypted is as long as the data
pub Cts-length : (E : List ℕ → List ℕ) → ((b : List ℕ) → length (E b) ≡ 16) → (p c : List ℕ) → Cts E p c → length c ≡ length p
Cts-length E sized p c h =
    let cs : List (List ℕ) = chained E (zero_block 16) (padded_blocks 16 p) in
    let count : length cs ≡ (length p + 15) / 16 = (CbcFrom-chained E (zero_block 16) (padded_blocks 16 p)).0 ∙ first_count ((length p + 15) / 16) p in
    let all : length (concat (exchanged cs)) ≡ 16 * length cs = wide cs (chained_wide E sized (zero_block 16) (padded_blocks 16 p)) in
    ap length (blocks_are E p c h) ∙ length-take-le (length p) (concat (exchanged cs)) (omega (arith, count, all))
