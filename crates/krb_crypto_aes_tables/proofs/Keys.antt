-- What a key's calls return, from what is kept of the key.
use Rattle.std.proofs.Common.{◌≡◌, ℕ, ◌+◌, ◌-◌, ◌*◌, ◌≤◌, min, List, length, take, sym, ap, ◌∙◌, subst, arith, inl, inr, length-take}
use Rattle.krb_crypto_block.specs.Modes.{IsOctets, AreInverse}
use Rattle.krb_crypto_block.specs.Aes.{key_expansion, key_words, round_count, cipher, aes_block, IsKeySize}
use Rattle.krb_crypto_block.specs.InverseCipher.{decrypt, aes_undo}
use Rattle.krb_crypto_block.specs.AesWords.{HasRoundKey}
use Rattle.krb_crypto_aes_tables.specs.RoundKeys.{HasInverseKeys, IsKept}
use Rattle.krb_crypto_block.proofs.Below.{AreBelow-take}
use Rattle.krb_crypto_block.proofs.AesUndoing.{IsOctets-expanded, are_inverse}
use Rattle.krb_crypto_block.proofs.AesWordKeys.{key_expansion-octets}

module _ (octets words inverse_words v : List ℕ) (nr : ℕ) (kept : IsKept octets words inverse_words nr) (long : length octets ≡ 32) (view : take (4 * (nr - 6)) octets ≡ v) where
  pub value_octets : IsOctets v
  value_octets = subst IsOctets view (AreBelow-take (4 * (nr - 6)) octets kept.are_octets)

  pub expansion_octets : IsOctets (key_expansion v)
  unfolding key_expansion
  expansion_octets = IsOctets-expanded (key_words v) v (4 * (round_count (key_words v) + 1) - key_words v) value_octets

  pub keys_are : (n : ℕ) → n ≤ nr → HasRoundKey (key_expansion v) words n
  keys_are = rw view at kept.keys

  pub inverse_keys_are : HasInverseKeys (key_expansion v) inverse_words nr
  inverse_keys_are = rw view at kept.inverse_keys

  rounds_are : round_count (key_words v) ≡ nr
  rounds_are =
      let len : length v ≡ min (4 * (nr - 6)) (length octets) = ap length (sym view) ∙ length-take (4 * (nr - 6)) octets in
      elim kept.size [ inl four ↦ omega arith | inr eight ↦ omega arith ]

  pub cipher_is : (p : List ℕ) → aes_block v p ≡ cipher (key_expansion v) nr p
  unfolding aes_block
  cipher_is p = ap (λ (m : ℕ). cipher (key_expansion v) m p) rounds_are

  pub decrypt_is : (c : List ℕ) → aes_undo v c ≡ decrypt (key_expansion v) nr c
  unfolding aes_undo
  decrypt_is c = ap (λ (m : ℕ). decrypt (key_expansion v) m c) rounds_are

  pub keys_undo : AreInverse 16 (aes_block v) (aes_undo v)
  keys_undo = are_inverse v value_octets

-- a key of nk words is kept
pub is_kept : (key octets words inverse_words : List ℕ) (nk : ℕ) → IsKeySize nk → length key ≡ 4 * nk → IsOctets octets → take (length key) octets ≡ key
    → ((n : ℕ) → n ≤ nk + 6 → HasRoundKey (key_expansion key) words n)
    → ((w : List ℕ) → IsOctets w → ((n : ℕ) → n ≤ nk + 6 → HasRoundKey w words n) → HasInverseKeys w inverse_words (nk + 6))
    → IsKept octets words inverse_words (nk + 6)
is_kept key octets words inverse_words nk size long are_octets prefix keys inverse =
    let same : nk + 6 - 6 ≡ nk = omega arith in
    let whole : 4 * (nk + 6 - 6) ≡ length key = omega arith in
    let value : take (4 * (nk + 6 - 6)) octets ≡ key = rw whole prefix in
    let key_octets : IsOctets key = subst IsOctets prefix (AreBelow-take (length key) octets are_octets) in
    record {
      size = rw same size;
      are_octets = are_octets;
      keys = rw value keys;
      inverse_keys = rw value (inverse (key_expansion key) (key_expansion-octets nk key size long key_octets) keys);
    }
