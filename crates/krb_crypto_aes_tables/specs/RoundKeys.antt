-- What is kept of a key: its octets, and round keys as words (FIPS 197, 5.2 and 5.3.5).
use Rattle.std.specs.Prelude.{◌≡◌, ℕ, ◌+◌, ◌-◌, ◌*◌, ◌<◌, ◌≤◌, List, take, slice_index}
use Rattle.krb_crypto_block.specs.Modes.{IsOctets}
use Rattle.krb_crypto_block.specs.Aes.{product_of_columns, key_expansion, IsKeySize}
use Rattle.krb_crypto_block.specs.AesWords.{word_of, key_column, HasRoundKey}
use Rattle.krb_crypto_block.specs.InverseCipher.{unmix_polynomial}

-- the words have what InvMixColumns takes that round key to (5.3.5)
unfoldable pub HasUnmixedKey : List ℕ → List ℕ → ℕ → Type 0
HasUnmixedKey w words n =
    (c : ℕ) → c < 4 → slice_index words (4 * n + c) ≡ word_of (product_of_columns unmix_polynomial (key_column w n c))

-- the round keys of the equivalent inverse cipher for nr rounds (5.3.5): all but the first and the last are unmixed
pub record HasInverseKeys (w words : List ℕ) (nr : ℕ) : Type 0 where
  pub first : HasRoundKey w words 0
  pub between : (n : ℕ) → 1 ≤ n → n < nr → HasUnmixedKey w words n
  pub last : HasRoundKey w words nr

-- the octets of a key that is a prefix of a list, the words of its round keys, and those of the equivalent inverse cipher,
-- for this number of rounds
pub record IsKept (octets words inverse_words : List ℕ) (nr : ℕ) : Type 0 where
  pub size : IsKeySize (nr - 6)
  pub are_octets : IsOctets octets
  pub keys : (n : ℕ) → n ≤ nr → HasRoundKey (key_expansion (take (4 * (nr - 6)) octets)) words n
  pub inverse_keys : HasInverseKeys (key_expansion (take (4 * (nr - 6)) octets)) inverse_words nr
