-- Keys from keys (RFC 3961, 5.1), those of AES (RFC 3962, 4 and 6), and those of triple DES (RFC 3961, 6.3.1).
use Rattle.std.specs.Prelude.{◌≡◌, ℕ, zero, suc, ◌+◌, ◌-◌, ◌*◌, ◌/◌, ◌<◌, List, [], ◌++◌, length, take, codes}
use Rattle.krb_crypto_block.specs.Fold.{fold}
use Rattle.krb_crypto_block.specs.Aes.{aes_block}
use Rattle.krb_crypto_block.specs.Des.{ede3}
use Rattle.krb_crypto_hash.specs.Pbkdf2.{IsPbkdf2}
use Rattle.krb_crypto_message.specs.RandomToKey.{random_to_key}

-- n blocks E(f), E(E(f)), .., concatenated
unfoldable pub blocks_from : (List ℕ → List ℕ) → List ℕ → ℕ → List ℕ
blocks_from E f zero = []
blocks_from E f (suc n) = E f ++ blocks_from E (E f) n

-- DR: the first s octets of these, from the constant folded to a block of size octets (RFC 3961, 5.1)
abbrev pub dr : (List ℕ → List ℕ) → ℕ → List ℕ → ℕ → List ℕ
dr E size constant s = take s (blocks_from E (fold constant (8 * size)) ((s + size - 1) / size))

-- DK of AES: the seed is as long as the key, and random-to-key changes nothing (RFC 3962, 6)
unfoldable pub aes_dk : List ℕ → List ℕ → List ℕ
aes_dk key constant = dr (aes_block key) 16 constant (length key)

-- string-to-key of AES: PBKDF2 to a seed of the key's length, and DK of it with "kerberos" (RFC 3962, 4)
abbrev pub IsAesPasswordKey : ℕ → List ℕ → List ℕ → List ℕ → Type 0
IsAesPasswordKey size password salt key =
    (seed : List ℕ) × (length seed ≡ size) × IsPbkdf2 password salt 4096 seed × (key ≡ aes_dk seed (codes "kerberos"))

-- DK of triple DES: the seed has 21 octets, and random-to-key makes 24 of them (RFC 3961, 6.3.1)
unfoldable pub des3_dk : List ℕ → List ℕ → List ℕ
des3_dk key constant = random_to_key (dr (ede3 key) 8 constant 21)

-- string-to-key of triple DES: password and salt, concatenated and not empty, folded to a seed of 168 bits, and DK of the seed's
-- key with "kerberos" (RFC 3961, 6.3.1)
abbrev pub IsDes3PasswordKey : List ℕ → List ℕ → List ℕ → Type 0
IsDes3PasswordKey password salt key =
    (0 < length (password ++ salt)) × (key ≡ des3_dk (random_to_key (fold (password ++ salt) 168)) (codes "kerberos"))
