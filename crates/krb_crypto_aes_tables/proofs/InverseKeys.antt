-- The round keys of the equivalent inverse cipher, by words.
use Rattle.std.proofs.Common.{◌≡◌, ℕ, ◌+◌, ◌*◌, ◌<◌, ◌≤◌, ◌≢◌, ◌⊎◌, List, length, slice_index, set, ◌∙◌, arith, inl, inr}
use Rattle.std.proofs.lemmas.Bool.{cases_lt}
use Rattle.std.proofs.lemmas.List.{get_or-set_same, get_or-set_other, length-set}
use Rattle.krb_crypto_block.specs.Modes.{IsOctets}
use Rattle.krb_crypto_block.specs.Aes.{product_of_columns}
use Rattle.krb_crypto_block.specs.InverseCipher.{unmix_polynomial}
use Rattle.krb_crypto_block.specs.AesWords.{word_of, key_column, HasRoundKey}
use Rattle.krb_crypto_block.proofs.AesUndoing.{IsOctets-word}
use Rattle.krb_crypto_aes_tables.specs.RoundKeys.{HasUnmixedKey, HasInverseKeys}

-- y is what InvMixColumns takes the word x to
abbrev pub Unmixes : ℕ → ℕ → Type 0
Unmixes x y = (t : List ℕ) → IsOctets t → x ≡ word_of t → y ≡ word_of (product_of_columns unmix_polynomial t)

-- where the words from 4 to below i are unmixed, and the others are as they were
pub record AreUnmixed (words inverted : List ℕ) (i : ℕ) : Type 0 where
  pub long : length inverted ≡ 60
  pub outside : (k : ℕ) → (k < 4) ⊎ (i ≤ k) → slice_index inverted k ≡ slice_index words k
  pub within : (k : ℕ) → 4 ≤ k → k < i → Unmixes (slice_index words k) (slice_index inverted k)

pub unmixed_more : (words inverted : List ℕ) (i y : ℕ) → 4 ≤ i → i < 60 → AreUnmixed words inverted i → Unmixes (slice_index words i) y
    → AreUnmixed words (set inverted i y) (i + 1)
unmixed_more words inverted i y low fits are made =
    record {
      long = length-set inverted i y ∙ are.long;
      outside = λ k h.
          let before : (k < 4) ⊎ (i ≤ k) = elim h [ inl a ↦ inl a | inr b ↦ inr (omega arith) ] in
          let other : k ≢ i = elim h [ inl a ↦ omega arith | inr b ↦ omega arith ] in
          get_or-set_other inverted i k y 0 other ∙ are.outside k before;
      within = λ k from h.
          elim (cases_lt k i) [
            | inl below ↦
                let other : k ≢ i = omega arith in
                rw (get_or-set_other inverted i k y 0 other) (are.within k from below)
            | inr top ↦
                let here : i ≡ k = omega arith in
                rw (← here, get_or-set_same inverted i y 0 (omega (arith, are.long))) made
          ];
    }

pub inverse_keys : (words inverted : List ℕ) (nr : ℕ) → 1 ≤ nr → AreUnmixed words inverted (4 * nr)
    → (w : List ℕ) → IsOctets w → ((n : ℕ) → n ≤ nr → HasRoundKey w words n) → HasInverseKeys w inverted nr
unfolding HasRoundKey HasUnmixedKey
inverse_keys words inverted nr low are w octets has =
    record {
      first = λ c h. are.outside (4 * 0 + c) (inl (omega arith)) ∙ has 0 (omega arith) c h;
      between = λ n from to c h.
          are.within (4 * n + c) (omega arith) (omega arith) (key_column w n c)
          (IsOctets-word _ _ _ _ (octets (16 * n + (0 + 4 * c))) (octets (16 * n + (1 + 4 * c))) (octets (16 * n + (2 + 4 * c))) (octets (16 * n + (3 + 4 * c))))
          (has n (omega arith) c h);
      last = λ c h. are.outside (4 * nr + c) (inr (omega arith)) ∙ has nr (omega arith) c h;
    }
