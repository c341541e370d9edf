-- The block calls of a key undo each other.
use Rattle.std.proofs.Common.{◌≡◌, ℕ, zero, suc, ◌+◌, ◌-◌, ◌*◌, ◌/◌, ◌%◌, ◌<◌, ◌==◌, ◌&&◌, true, false, List, [], ◌∷◌, length, refl, lit<, if◌then◌else◌}
use Rattle.std.proofs.lemmas.Nat.{xor_lt}
use Rattle.krb_crypto_block.specs.Modes.{IsOctets, IsBlock, AreInverse}
use Rattle.krb_crypto_block.specs.Aes.{add_words, sub_word, rot_word, word_at, power_of_x, round_constant, key_term, next_word, expanded, key_expansion, key_words, round_count, add_round_key, aes_block}
use Rattle.krb_crypto_block.specs.InverseCipher.{aes_undo}
use Rattle.krb_crypto_block.proofs.Below.{AreBelow-append}
use Rattle.krb_crypto_block.proofs.AesTables.{s_box_octet}
use Rattle.krb_crypto_block.proofs.AesStates.{IsState, times_octet}
use Rattle.krb_crypto_block.proofs.AesInverting.{cipher-decrypt, decrypt-cipher, cipher-IsState, decrypt-IsState}

-- ---- the round keys are octets

pub IsOctets-word : (a b c d : ℕ) → a < 256 → b < 256 → c < 256 → d < 256 → IsOctets (a ∷ b ∷ c ∷ d ∷ [])
IsOctets-word a b c d ha hb hc hd zero = ha
IsOctets-word a b c d ha hb hc hd (suc zero) = hb
IsOctets-word a b c d ha hb hc hd (suc (suc zero)) = hc
IsOctets-word a b c d ha hb hc hd (suc (suc (suc zero))) = hd
IsOctets-word a b c d ha hb hc hd (suc (suc (suc (suc i)))) = lit< tt

IsOctets-add_words : (t u : List ℕ) → IsOctets t → IsOctets u → IsOctets (add_words t u)
IsOctets-add_words t u h g =
    IsOctets-word _ _ _ _ (xor_lt 8 _ _ (h 0) (g 0)) (xor_lt 8 _ _ (h 1) (g 1)) (xor_lt 8 _ _ (h 2) (g 2)) (xor_lt 8 _ _ (h 3) (g 3))

pub IsOctets-word_at : (w : List ℕ) (i : ℕ) → IsOctets w → IsOctets (word_at w i)
IsOctets-word_at w i h = IsOctets-word _ _ _ _ (h (4 * i)) (h (4 * i + 1)) (h (4 * i + 2)) (h (4 * i + 3))

pub IsOctets-rot_word : (t : List ℕ) → IsOctets t → IsOctets (rot_word t)
IsOctets-rot_word t h = IsOctets-word _ _ _ _ (h 1) (h 2) (h 3) (h 0)

pub IsOctets-sub_word : (t : List ℕ) → IsOctets t → IsOctets (sub_word t)
IsOctets-sub_word t h = IsOctets-word _ _ _ _ (s_box_octet _ (h 0)) (s_box_octet _ (h 1)) (s_box_octet _ (h 2)) (s_box_octet _ (h 3))

power_of_x-lt : (n : ℕ) → power_of_x n < 256
unfolding power_of_x
power_of_x-lt zero = lit< tt
power_of_x-lt (suc n) = times_octet 2 (power_of_x n) (lit< tt) (power_of_x-lt n)

pub IsOctets-round_constant : (nk i : ℕ) → IsOctets (round_constant nk i)
IsOctets-round_constant nk i = IsOctets-word _ _ _ _ (power_of_x-lt (i / nk - 1)) (lit< tt) (lit< tt) (lit< tt)

pub IsOctets-key_term : (nk i : ℕ) (t : List ℕ) → IsOctets t → IsOctets (key_term nk i t)
unfolding key_term
IsOctets-key_term nk i t h =
    elim (i % nk == 0) as (λ b. IsOctets (if b then add_words (sub_word (rot_word t)) (round_constant nk i) else if (nk == 8) && (i % 8 == 4) then sub_word t else t)) [
      | true ↦
          IsOctets-add_words (sub_word (rot_word t)) (round_constant nk i) (IsOctets-sub_word (rot_word t) (IsOctets-rot_word t h))
          (IsOctets-round_constant nk i)
      | false ↦ elim ((nk == 8) && (i % 8 == 4)) as (λ b. IsOctets (if b then sub_word t else t)) [ true ↦ IsOctets-sub_word t h | false ↦ h ]
    ]

pub IsOctets-expanded : (nk : ℕ) (key : List ℕ) (n : ℕ) → IsOctets key → IsOctets (expanded nk key n)
unfolding expanded
IsOctets-expanded nk key zero h = h
IsOctets-expanded nk key (suc n) h =
    let w = expanded nk key n in
    let before = IsOctets-expanded nk key n h in
    AreBelow-append w (next_word nk w (n + nk)) before
    (IsOctets-add_words (word_at w (n + nk - nk)) (key_term nk (n + nk) (word_at w (n + nk - 1))) (IsOctets-word_at w (n + nk - nk) before)
    (IsOctets-key_term nk (n + nk) (word_at w (n + nk - 1)) (IsOctets-word_at w (n + nk - 1) before)))

-- ---- the cipher and the inverse cipher

pub state_of_block : (b : List ℕ) → IsBlock 16 b → IsState b
state_of_block b h = record { long = h.0; octets = h.1 }

pub block_of_state : (b : List ℕ) → IsState b → IsBlock 16 b
block_of_state b is = (is.long, is.octets)

inverse_under : (key : List ℕ) → IsOctets (key_expansion key) → AreInverse 16 (aes_block key) (aes_undo key)
unfolding aes_block aes_undo
inverse_under key octets =
    let w = key_expansion key in
    let nr = round_count (key_words key) in
    record {
      encrypted_octets = λ b h. block_of_state _ (cipher-IsState w octets nr b (state_of_block b h));
      decrypted = λ b h. block_of_state _ (decrypt-IsState w octets nr b (state_of_block b h));
      left = λ b h. decrypt-cipher w octets nr b (state_of_block b h);
      right = λ b h. cipher-decrypt w octets nr b (state_of_block b h);
    }

pub are_inverse : (key : List ℕ) → IsOctets key → AreInverse 16 (aes_block key) (aes_undo key)
unfolding key_expansion
are_inverse key octets = inverse_under key (IsOctets-expanded (key_words key) key (4 * (round_count (key_words key) + 1) - key_words key) octets)

-- a block is taken to a block, whatever the key
pub aes_block_size : (key b : List ℕ) → length (aes_block key b) ≡ 16
unfolding aes_block add_round_key
aes_block_size key b = refl
