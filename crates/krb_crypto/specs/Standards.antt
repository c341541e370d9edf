-- What the standards say of each suite, whoever implements it.
use Rattle.std.specs.Prelude.{◌≡◌, ◌↔◌, ◌+◌, ◌*◌, ℕ, ℤ, List}
use Rattle.krb_crypto_hash.specs.Hmac.{hmac}
use Rattle.krb_crypto_hash.specs.declared.error.KerberosCryptoError.{KerberosCryptoError}
use Rattle.krb_crypto_block.specs.declared.aes.AesSize.{AesSize}
use Rattle.krb_crypto_message.specs.AesSha2.{IsSealedSha2, IsSha2PasswordKey, sha2_ki, sha2_mac, sha2_sum}
use Rattle.krb_crypto_message.specs.Derive.{IsAesPasswordKey, IsDes3PasswordKey}
use Rattle.krb_crypto_message.specs.RandomToKey.{random_to_key}
use Rattle.krb_crypto_message.specs.Sealed.{IsSealedAes, aes_ki, aes_sum, mac_96, aes_error, cts_error, IsSealedDes3, des3_ki, des3_sum, des3_error, IsNoDes3Password}
use Rattle.krb_crypto.specs.Suites.{etype, checksum_type}
use Rattle.krb_crypto.specs.declared.cipher.Cipher.{Ghosts as CipherWords}
use Rattle.krb_crypto.specs.declared.checksum.Checksum.{Ghosts as ChecksumWords}

-- ---- ciphers

-- a suite of RFC 3962, 6 and 7, whose keys have so many octets, and whose encryption and checksum types have these numbers
pub record IsAesSuite {S : Type 0} (words : CipherWords S) (suite : S) (size number checksum_number : ℕ) : Type 0 where
  pub encryption_type : etype (words.encryption_type suite) ≡ number
  pub checksum_type : checksum_type (words.keyed_checksum_type suite) ≡ checksum_number
  pub key_octets : words.key_octets suite ≡ size
  pub seed_bits : words.seed_bits suite ≡ 8 * size
  pub confounder_octets : words.confounder_octets suite ≡ 16
  pub padding_octets : words.padding_octets suite ≡ 1
  pub checksum_octets : words.checksum_octets suite ≡ 12
  pub meaning : (key : List ℕ) (usage : ℤ) (confounder payload octets : List ℕ) → words.meaning suite key usage confounder payload octets ↔ IsSealedAes key usage confounder payload octets
  pub unopened : (key : List ℕ) (usage : ℤ) (octets : List ℕ) (e : KerberosCryptoError) → words.unopened suite key usage octets e ↔ e ≡ aes_error size key octets
  pub integrity_key : (key : List ℕ) (usage : ℤ) → words.integrity_key suite key usage ≡ aes_ki key usage
  pub integrity_checksum : (key : List ℕ) (usage : ℤ) (message : List ℕ) → words.integrity_checksum suite key usage message ≡ mac_96 (aes_ki key usage) message
  pub key_of_seed : (seed : List ℕ) → words.key_of_seed suite seed ≡ seed
  pub password_key : (password salt key : List ℕ) → words.password_key suite password salt key ↔ IsAesPasswordKey size password salt key
  pub no_password_key : (password salt : List ℕ) (e : KerberosCryptoError) → ¬ (words.no_password_key suite password salt e)

-- a suite of RFC 8009, 5 and 7, under this size of AES, whose keys and checksums have so many octets, and whose encryption and
-- checksum types both have this number
pub record IsAesSha2Suite {S : Type 0} (words : CipherWords S) (suite : S) (size : AesSize) (key_size checksum_size number : ℕ) : Type 0 where
  pub encryption_type : etype (words.encryption_type suite) ≡ number
  pub checksum_type : checksum_type (words.keyed_checksum_type suite) ≡ number
  pub key_octets : words.key_octets suite ≡ key_size
  pub seed_bits : words.seed_bits suite ≡ 8 * key_size
  pub confounder_octets : words.confounder_octets suite ≡ 16
  pub padding_octets : words.padding_octets suite ≡ 1
  pub checksum_octets : words.checksum_octets suite ≡ checksum_size
  pub meaning : (key : List ℕ) (usage : ℤ) (confounder payload octets : List ℕ) → words.meaning suite key usage confounder payload octets ↔ IsSealedSha2 size key usage confounder payload octets
  pub unopened : (key : List ℕ) (usage : ℤ) (octets : List ℕ) (e : KerberosCryptoError) → words.unopened suite key usage octets e ↔ e ≡ cts_error (16 + checksum_size) key_size key octets
  pub integrity_key : (key : List ℕ) (usage : ℤ) → words.integrity_key suite key usage ≡ sha2_ki size key usage
  pub integrity_checksum : (key : List ℕ) (usage : ℤ) (message : List ℕ) → words.integrity_checksum suite key usage message ≡ sha2_mac size (sha2_ki size key usage) message
  pub key_of_seed : (seed : List ℕ) → words.key_of_seed suite seed ≡ seed
  pub password_key : (password salt key : List ℕ) → words.password_key suite password salt key ↔ IsSha2PasswordKey size password salt key
  pub no_password_key : (password salt : List ℕ) (e : KerberosCryptoError) → ¬ (words.no_password_key suite password salt e)

-- the suite of RFC 3961, 6.3 and 8
pub record IsDes3Suite {S : Type 0} (words : CipherWords S) (suite : S) : Type 0 where
  pub encryption_type : etype (words.encryption_type suite) ≡ 16
  pub checksum_type : checksum_type (words.keyed_checksum_type suite) ≡ 12
  pub key_octets : words.key_octets suite ≡ 24
  pub seed_bits : words.seed_bits suite ≡ 168
  pub confounder_octets : words.confounder_octets suite ≡ 8
  pub padding_octets : words.padding_octets suite ≡ 8
  pub checksum_octets : words.checksum_octets suite ≡ 20
  pub meaning : (key : List ℕ) (usage : ℤ) (confounder payload octets : List ℕ) → words.meaning suite key usage confounder payload octets ↔ IsSealedDes3 key usage confounder payload octets
  pub unopened : (key : List ℕ) (usage : ℤ) (octets : List ℕ) (e : KerberosCryptoError) → words.unopened suite key usage octets e ↔ e ≡ des3_error key octets
  pub integrity_key : (key : List ℕ) (usage : ℤ) → words.integrity_key suite key usage ≡ des3_ki key usage
  pub integrity_checksum : (key : List ℕ) (usage : ℤ) (message : List ℕ) → words.integrity_checksum suite key usage message ≡ hmac (des3_ki key usage) message
  pub key_of_seed : (seed : List ℕ) → words.key_of_seed suite seed ≡ random_to_key seed
  pub password_key : (password salt key : List ℕ) → words.password_key suite password salt key ↔ IsDes3PasswordKey password salt key
  pub no_password_key : (password salt : List ℕ) (e : KerberosCryptoError) → words.no_password_key suite password salt e ↔ IsNoDes3Password password salt e

-- ---- checksums

-- a checksum of RFC 3962, 7, under keys of so many octets and of the type with this number
pub record IsAesChecksum {S : Type 0} (words : ChecksumWords S) (suite : S) (size number : ℕ) : Type 0 where
  pub checksum_type : checksum_type (words.suite suite) ≡ number
  pub key_octets : words.key_octets suite ≡ size
  pub sum : (key : List ℕ) (usage : ℤ) (message : List ℕ) → words.sum suite key usage message ≡ aes_sum key usage message

-- a checksum of RFC 8009, 6 and 7, under this size of AES, keys of so many octets and of the type with this number
pub record IsAesSha2Checksum {S : Type 0} (words : ChecksumWords S) (suite : S) (size : AesSize) (key_size number : ℕ) : Type 0 where
  pub checksum_type : checksum_type (words.suite suite) ≡ number
  pub key_octets : words.key_octets suite ≡ key_size
  pub sum : (key : List ℕ) (usage : ℤ) (message : List ℕ) → words.sum suite key usage message ≡ sha2_sum size key usage message

-- the checksum of RFC 3961, 6.3 and 8
pub record IsDes3Checksum {S : Type 0} (words : ChecksumWords S) (suite : S) : Type 0 where
  pub checksum_type : checksum_type (words.suite suite) ≡ 12
  pub key_octets : words.key_octets suite ≡ 24
  pub sum : (key : List ℕ) (usage : ℤ) (message : List ℕ) → words.sum suite key usage message ≡ des3_sum key usage message
