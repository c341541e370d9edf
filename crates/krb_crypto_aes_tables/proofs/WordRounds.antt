-- A round over words is the round, both ways.
use Rattle.std.proofs.Common.{◌≡◌, ℕ, ◌+◌, ◌*◌, ◌<◌, bit_xor, List, [], ◌∷◌, slice_index, sym, ap, ◌∙◌, arith, lit<}
use Rattle.krb_crypto_block.specs.Modes.{IsOctets, IsBlock}
use Rattle.krb_crypto_block.specs.Aes.{octet_at, column_of, product_of_columns, mix_polynomial, sub_bytes, shift_rows, mix_columns, add_round_key, round}
use Rattle.krb_crypto_block.specs.InverseCipher.{unmix_polynomial, inverse_sub_bytes, inverse_shift_rows, inverse_mix_columns}
use Rattle.krb_crypto_block.specs.AesWords.{word, word_of, Holds, HasRoundKey, inverse_cipher_round}
use Rattle.krb_crypto_aes_tables.specs.RoundKeys.{HasUnmixedKey}
use Rattle.krb_crypto_block.proofs.AesStates.{IsState, mix_columns-IsState, sub_bytes-IsState, shift_rows-IsState, add_round_key-IsState, unmix_octet, unmix_lt, inverse_mix_columns-IsState, inverse_sub_bytes-IsState, inverse_shift_rows-IsState}
use Rattle.krb_crypto_block.proofs.AesColumns.{product_xor}
use Rattle.krb_crypto_block.proofs.AesUndoing.{state_of_block, block_of_state}
use Rattle.krb_crypto_block.proofs.AesWords.{same4, word_xor}

-- ---- the key's words

module _ (w keys : List ℕ) (n : ℕ) (octets : IsOctets w) where
  -- a word and the key's word of column c
  add_key_word : (has : HasRoundKey w keys n) (c a b d e : ℕ) → c < 4 → b < 256 → d < 256 → e < 256
      → bit_xor (word a b d e) (slice_index keys (4 * n + c))
      ≡ word (bit_xor a (slice_index w (16 * n + (0 + 4 * c)))) (bit_xor b (slice_index w (16 * n + (1 + 4 * c))))
      (bit_xor d (slice_index w (16 * n + (2 + 4 * c)))) (bit_xor e (slice_index w (16 * n + (3 + 4 * c))))
  unfolding HasRoundKey
  add_key_word has c a b d e hc hb hd he =
      ap (bit_xor (word a b d e)) (has c hc)
      ∙ word_xor a b d e _ _ _ _ hb hd he (octets (16 * n + (1 + 4 * c))) (octets (16 * n + (2 + 4 * c))) (octets (16 * n + (3 + 4 * c)))

  -- column c of a state with the key added
  added_column : (has : HasRoundKey w keys n) (t : List ℕ) (c r : ℕ) → IsState t → c < 4
      → r ≡ bit_xor (word_of (column_of t c)) (slice_index keys (4 * n + c))
      → r ≡ word (bit_xor (octet_at t 0 c) (slice_index w (16 * n + (0 + 4 * c)))) (bit_xor (octet_at t 1 c) (slice_index w (16 * n + (1 + 4 * c))))
      (bit_xor (octet_at t 2 c) (slice_index w (16 * n + (2 + 4 * c)))) (bit_xor (octet_at t 3 c) (slice_index w (16 * n + (3 + 4 * c))))
  added_column has t c r is hc made =
      made ∙ add_key_word has c _ _ _ _ hc (is.octets (1 + 4 * c)) (is.octets (2 + 4 * c)) (is.octets (3 + 4 * c))

  -- the columns of a state, and the key
  pub added_is : (t : List ℕ) (r0 r1 r2 r3 : ℕ) → HasRoundKey w keys n → IsState t
      → r0 ≡ bit_xor (word_of (column_of t 0)) (slice_index keys (4 * n))
      → r1 ≡ bit_xor (word_of (column_of t 1)) (slice_index keys (4 * n + 1))
      → r2 ≡ bit_xor (word_of (column_of t 2)) (slice_index keys (4 * n + 2))
      → r3 ≡ bit_xor (word_of (column_of t 3)) (slice_index keys (4 * n + 3))
      → Holds (r0 ∷ r1 ∷ r2 ∷ r3 ∷ []) (add_round_key w n t)
  unfolding add_round_key
  added_is t r0 r1 r2 r3 has is e0 e1 e2 e3 =
      let prefix : 4 * n + 0 ≡ 4 * n = omega arith in
      let made : r0 ≡ bit_xor (word_of (column_of t 0)) (slice_index keys (4 * n + 0)) = e0 ∙ ap (λ (k : ℕ). bit_xor (word_of (column_of t 0)) (slice_index keys k)) (sym prefix) in (
        block_of_state _ (add_round_key-IsState w n t octets is),
        same4 _ _ _ _ _ _ _ _
            (added_column has t 0 r0 is (lit< tt) made) (added_column has t 1 r1 is (lit< tt) e1)
            (added_column has t 2 r2 is (lit< tt) e2) (added_column has t 3 r3 is (lit< tt) e3),
      )

  -- column c of the unmixed state, and the unmixed key, of a state with the key added
  unmixed_column_is : (has : HasUnmixedKey w keys n) (t : List ℕ) (c r : ℕ) → IsState t → c < 4
      → r ≡ bit_xor (word_of (product_of_columns unmix_polynomial (column_of t c))) (slice_index keys (4 * n + c))
      → r ≡ word_of (product_of_columns unmix_polynomial
      (bit_xor (octet_at t 0 c) (slice_index w (16 * n + (0 + 4 * c))) ∷ bit_xor (octet_at t 1 c) (slice_index w (16 * n + (1 + 4 * c)))
      ∷ bit_xor (octet_at t 2 c) (slice_index w (16 * n + (2 + 4 * c))) ∷ bit_xor (octet_at t 3 c) (slice_index w (16 * n + (3 + 4 * c))) ∷ []))
  unfolding HasUnmixedKey
  unmixed_column_is has t c r is hc made =
      let k = λ (i : ℕ). slice_index w (16 * n + (i + 4 * c)) in
      let hk = λ (i : ℕ). octets (16 * n + (i + 4 * c)) in
      let u = product_of_columns unmix_polynomial in
      made ∙ ap (bit_xor (word_of (u (column_of t c)))) (has c hc)
      ∙ word_xor _ _ _ _ _ _ _ _ (unmix_octet t is 1 c (lit< tt) hc) (unmix_octet t is 2 c (lit< tt) hc) (unmix_octet t is 3 c (lit< tt) hc)
      (unmix_lt (k 0) (k 1) (k 2) (k 3) 1 (hk 0) (hk 1) (hk 2) (hk 3) (lit< tt)) (unmix_lt (k 0) (k 1) (k 2) (k 3) 2 (hk 0) (hk 1) (hk 2) (hk 3) (lit< tt))
      (unmix_lt (k 0) (k 1) (k 2) (k 3) 3 (hk 0) (hk 1) (hk 2) (hk 3) (lit< tt))
      ∙ sym (ap word_of (product_xor unmix_polynomial (octet_at t 0 c) (octet_at t 1 c) (octet_at t 2 c) (octet_at t 3 c) (k 0) (k 1) (k 2) (k 3)))

  -- ---- the rounds

  pub round_is : (st : List ℕ) (r0 r1 r2 r3 : ℕ) → HasRoundKey w keys n → IsBlock 16 st
      → r0 ≡ bit_xor (word_of (product_of_columns mix_polynomial (column_of (shift_rows (sub_bytes st)) 0))) (slice_index keys (4 * n))
      → r1 ≡ bit_xor (word_of (product_of_columns mix_polynomial (column_of (shift_rows (sub_bytes st)) 1))) (slice_index keys (4 * n + 1))
      → r2 ≡ bit_xor (word_of (product_of_columns mix_polynomial (column_of (shift_rows (sub_bytes st)) 2))) (slice_index keys (4 * n + 2))
      → r3 ≡ bit_xor (word_of (product_of_columns mix_polynomial (column_of (shift_rows (sub_bytes st)) 3))) (slice_index keys (4 * n + 3))
      → Holds (r0 ∷ r1 ∷ r2 ∷ r3 ∷ []) (round w n st)
  unfolding mix_columns
  round_is st r0 r1 r2 r3 has block e0 e1 e2 e3 =
      let ist : IsState (shift_rows (sub_bytes st)) = shift_rows-IsState _ (sub_bytes-IsState st (state_of_block st block)) in
      added_is (mix_columns (shift_rows (sub_bytes st))) r0 r1 r2 r3 has (mix_columns-IsState _ ist) e0 e1 e2 e3

  pub inverse_round_is : (st : List ℕ) (r0 r1 r2 r3 : ℕ) → HasUnmixedKey w keys n → IsBlock 16 st
      → r0 ≡ bit_xor (word_of (product_of_columns unmix_polynomial (column_of (inverse_sub_bytes (inverse_shift_rows st)) 0))) (slice_index keys (4 * n))
      → r1 ≡ bit_xor (word_of (product_of_columns unmix_polynomial (column_of (inverse_sub_bytes (inverse_shift_rows st)) 1))) (slice_index keys (4 * n + 1))
      → r2 ≡ bit_xor (word_of (product_of_columns unmix_polynomial (column_of (inverse_sub_bytes (inverse_shift_rows st)) 2))) (slice_index keys (4 * n + 2))
      → r3 ≡ bit_xor (word_of (product_of_columns unmix_polynomial (column_of (inverse_sub_bytes (inverse_shift_rows st)) 3))) (slice_index keys (4 * n + 3))
      → Holds (r0 ∷ r1 ∷ r2 ∷ r3 ∷ []) (inverse_cipher_round w n st)
  unfolding inverse_mix_columns add_round_key
  inverse_round_is st r0 r1 r2 r3 has block e0 e1 e2 e3 =
      let t = inverse_sub_bytes (inverse_shift_rows st) in
      let is : IsState t = inverse_sub_bytes-IsState _ (inverse_shift_rows-IsState st (state_of_block st block)) in
      let prefix : 4 * n + 0 ≡ 4 * n = omega arith in
      let made : r0 ≡ bit_xor (word_of (product_of_columns unmix_polynomial (column_of t 0))) (slice_index keys (4 * n + 0)) =
      e0 ∙ ap (λ (k : ℕ). bit_xor (word_of (product_of_columns unmix_polynomial (column_of t 0))) (slice_index keys k)) (sym prefix) in (
        block_of_state _ (inverse_mix_columns-IsState _ (add_round_key-IsState w n t octets is)),
        same4 _ _ _ _ _ _ _ _
            (unmixed_column_is has t 0 r0 is (lit< tt) made) (unmixed_column_is has t 1 r1 is (lit< tt) e1)
            (unmixed_column_is has t 2 r2 is (lit< tt) e2) (unmixed_column_is has t 3 r3 is (lit< tt) e3),
      )
