-- What a key's calls return, from what is kept of the key.
use Rattle.std.proofs.Common.{◌≡◌, ℕ, zero, suc, ◌+◌, ◌-◌, ◌*◌, ◌<◌, ◌≤◌, min, List, [], length, take, get_or, refl, sym, ap, ◌∙◌, subst, arith, inl, inr, length-take}
use Rattle.std.proofs.lemmas.List.{get_or-map}
use Rattle.krb_crypto_block.specs.Modes.{IsOctets, IsBlock, AreInverse}
use Rattle.krb_crypto_block.specs.Aes.{add_round_key, key_expansion, key_words, round_count, round, rounds, cipher, aes_block, IsKeySize}
use Rattle.krb_crypto_block.specs.AesWords.{inverse_cipher_round, inverse_cipher_rounds, inverse_cipher_last}
use Rattle.krb_crypto_block.specs.InverseCipher.{inverse_sub_bytes, inverse_shift_rows, inverse_rounds, decrypt, aes_undo}
use Rattle.krb_crypto_block.specs.AesLanes.{lanes_at, key_prefix, HasVectors, HasInverseVectors, IsKeyPrefix, EncryptsWith, DecryptsWith}
use Rattle.krb_crypto_block.specs.declared.aes.round_keys.RoundKey.{RoundKey}
use Rattle.krb_crypto_block.proofs.Below.{AreBelow-take}
use Rattle.krb_crypto_block.proofs.AesStates.{IsState, sub_bytes-IsState, shift_rows-IsState, mix_columns-IsState, add_round_key-IsState, inverse_mix_columns-IsState, inverse_sub_bytes-IsState, inverse_shift_rows-IsState}
use Rattle.krb_crypto_block.proofs.AesUndoing.{IsOctets-expanded, state_of_block, block_of_state, are_inverse}

-- ---- the key

-- a key of octets that is the prefix of a list
module _ (octets v : List ℕ) (nr : ℕ) (is : IsKeyPrefix octets nr) (long : length octets ≡ 32) (view : key_prefix octets nr ≡ v) where
  value_octets : IsOctets v
  value_octets = subst IsOctets view (AreBelow-take (4 * (nr - 6)) octets is.are_octets)

  pub expansion_octets : IsOctets (key_expansion v)
  unfolding key_expansion
  expansion_octets = IsOctets-expanded (key_words v) v (4 * (round_count (key_words v) + 1) - key_words v) value_octets

  rounds_are : round_count (key_words v) ≡ nr
  rounds_are =
      let len : length v ≡ min (4 * (nr - 6)) (length octets) = ap length (sym view) ∙ length-take (4 * (nr - 6)) octets in
      elim is.size [ inl four ↦ omega arith | inr eight ↦ omega arith ]

  pub cipher_is : (p : List ℕ) → aes_block v p ≡ cipher (key_expansion v) nr p
  unfolding aes_block
  cipher_is p = ap (λ (m : ℕ). cipher (key_expansion v) m p) rounds_are

  pub decrypt_is : (c : List ℕ) → aes_undo v c ≡ decrypt (key_expansion v) nr c
  unfolding aes_undo
  decrypt_is c = ap (λ (m : ℕ). decrypt (key_expansion v) m c) rounds_are

  pub keys_undo : AreInverse 16 (aes_block v) (aes_undo v)
  keys_undo = are_inverse v value_octets

-- the rounds of a key
pub most_rounds : (octets : List ℕ) (nr : ℕ) → IsKeyPrefix octets nr → (1 ≤ nr) × (nr ≤ 14)
most_rounds octets nr is = elim is.size [ inl four ↦ (omega arith, omega arith) | inr eight ↦ (omega arith, omega arith) ]

-- a key of nk words that is a prefix of a list
module _ (key octets : List ℕ) (nk : ℕ) (size : IsKeySize nk) (long : length key ≡ 4 * nk) (are_octets : IsOctets octets) (prefix : take (length key) octets ≡ key) where
  key_prefix-is : key_prefix octets (nk + 6) ≡ key
  key_prefix-is =
      let whole : 4 * (nk + 6 - 6) ≡ length key = omega arith in
      rw whole prefix

  is_key_prefix : IsKeyPrefix octets (nk + 6)
  is_key_prefix =
      let same : nk + 6 - 6 ≡ nk = omega arith in
      record { size = rw same size; are_octets = are_octets }

  pub encrypts_with : (keys : List RoundKey) → length keys ≡ 15 → HasVectors (key_expansion key) keys (nk + 6) → EncryptsWith octets keys (nk + 6)
  encrypts_with keys many has = record { key = is_key_prefix; long = many; vectors = rw key_prefix-is has }

  pub decrypts_with : (keys : List RoundKey) → length keys ≡ 15 → HasInverseVectors (key_expansion key) keys (nk + 6) → DecryptsWith octets keys (nk + 6)
  decrypts_with keys many has = record { key = is_key_prefix; long = many; vectors = rw key_prefix-is has }

pub lanes_are : (keys : List RoundKey) (n : ℕ) (d : RoundKey) → n < length keys → lanes_at keys n ≡ (get_or keys n d).lanes
lanes_are keys n d h = get_or-map (λ (x : RoundKey). x.lanes) keys n d [] h

-- ---- rounds

rounds_state : (w p : List ℕ) (n : ℕ) → IsOctets w → IsState p → IsState (rounds w p n)
unfolding rounds
rounds_state w p zero octets is = add_round_key-IsState w 0 p octets is
rounds_state w p (suc n) octets is =
    add_round_key-IsState w (suc n) _ octets (mix_columns-IsState _ (shift_rows-IsState _ (sub_bytes-IsState _ (rounds_state w p n octets is))))

pub rounds_block : (w p : List ℕ) (n : ℕ) → IsOctets w → IsBlock 16 p → IsBlock 16 (rounds w p n)
rounds_block w p n octets is = block_of_state _ (rounds_state w p n octets (state_of_block p is))

pub rounds_step : (w p : List ℕ) (n : ℕ) → 1 ≤ n → round w n (rounds w p (n - 1)) ≡ rounds w p (n + 1 - 1)
unfolding rounds
rounds_step w p zero h = absurd (omega arith)
rounds_step w p (suc n) h =
    let a : suc n - 1 ≡ n = omega arith in
    let b : suc n + 1 - 1 ≡ suc n = omega arith in
    rw (a, b) refl

-- ---- rounds of the inverse cipher

-- a round of the inverse cipher gives a block
pub inverse_block : (w st : List ℕ) (n : ℕ) → IsOctets w → IsBlock 16 st → IsBlock 16 (inverse_cipher_round w n st)
inverse_block w st n octets is =
    block_of_state _ (inverse_mix_columns-IsState _ (add_round_key-IsState w n _ octets (inverse_sub_bytes-IsState _ (inverse_shift_rows-IsState st (state_of_block st is)))))

pub added_block : (w st : List ℕ) (n : ℕ) → IsOctets w → IsBlock 16 st → IsBlock 16 (add_round_key w n st)
added_block w st n octets is = block_of_state _ (add_round_key-IsState w n st octets (state_of_block st is))

-- one of its rounds
pub inverse_step : (w st : List ℕ) (n m : ℕ) → 1 ≤ n → m ≡ n - 1 → inverse_cipher_rounds w (inverse_cipher_round w n st) m ≡ inverse_cipher_rounds w st n
unfolding inverse_cipher_rounds
inverse_step w st zero m h e = absurd (omega arith)
inverse_step w st (suc n) m h e =
    let same : m ≡ n = omega arith in
    rw same refl

-- ---- the inverse cipher, in the order of its steps

inverse_rounds_by_steps : (w st : List ℕ) (n : ℕ)
    → inverse_sub_bytes (inverse_shift_rows (inverse_cipher_rounds w st n)) ≡ inverse_rounds w (inverse_sub_bytes (inverse_shift_rows st)) n
unfolding inverse_rounds inverse_cipher_rounds
inverse_rounds_by_steps w st zero = refl
inverse_rounds_by_steps w st (suc n) = inverse_rounds_by_steps w (inverse_cipher_round w (suc n) st) n

pub decrypt_by_steps : (w c : List ℕ) (nr : ℕ) → inverse_cipher_last w (inverse_cipher_rounds w (add_round_key w nr c) (nr - 1)) ≡ decrypt w nr c
decrypt_by_steps w c nr = ap (add_round_key w 0) (inverse_rounds_by_steps w (add_round_key w nr c) (nr - 1))
