-- Keys that are derived once from a key for a usage, and what they are of (RFC 3961, 5.3 and 5.4).
use Rattle.std.specs.Prelude.{◌≡◌, ◌⊎◌, ℕ, ℤ, List, length}
use Rattle.krb_crypto_block.specs.declared.aes.AesSize.TheVariants.{Aes128, Aes256}
use Rattle.krb_crypto_hash.specs.CryptoError.{IsKeyLengthError}
use Rattle.krb_crypto_hash.specs.declared.error.KerberosCryptoError.{KerberosCryptoError}
use Rattle.krb_crypto_message.specs.AesSha2.{sha2_ke, sha2_kc}
use Rattle.krb_crypto_message.specs.DerivedKeys.{DerivedKeys}
use Rattle.krb_crypto_message.specs.Sealed.{aes_ke, aes_kc, des3_ke, des3_kc}
use Rattle.krb_crypto.specs.BySuite.{key_octets_of, integrity_key_of, checksum_key_octets_of}
use Rattle.krb_crypto.specs.declared.cipher_suite.CipherSuite.{CipherSuite}
use Rattle.krb_crypto.specs.declared.cipher_suite.CipherSuite.TheVariants.{Aes128CtsHmacSha196, Aes256CtsHmacSha196, Des3CbcSha1Kd, Aes128CtsHmacSha256128, Aes256CtsHmacSha384192}
use Rattle.krb_crypto.specs.declared.checksum_suite.ChecksumSuite.{ChecksumSuite}
use Rattle.krb_crypto.specs.declared.checksum_suite.ChecksumSuite.TheVariants as checksum

-- ---- for messages

-- a suite, and the keys Ke and Ki
pub record PreparedKeys : Type 0 where
  pub suite : CipherSuite
  pub keys : DerivedKeys

-- the key Ke
abbrev pub encryption_key_of : CipherSuite → List ℕ → ℤ → List ℕ
encryption_key_of Aes128CtsHmacSha196 key usage = aes_ke key usage
encryption_key_of Aes256CtsHmacSha196 key usage = aes_ke key usage
encryption_key_of Des3CbcSha1Kd key usage = des3_ke key usage
encryption_key_of Aes128CtsHmacSha256128 key usage = sha2_ke Aes128 key usage
encryption_key_of Aes256CtsHmacSha384192 key usage = sha2_ke Aes256 key usage

-- the octets of the key Ki: those of a key, and under RFC 8009 those of a checksum
abbrev pub integrity_key_octets_of : CipherSuite → ℕ
integrity_key_octets_of Aes128CtsHmacSha196 = 16
integrity_key_octets_of Aes256CtsHmacSha196 = 32
integrity_key_octets_of Des3CbcSha1Kd = 24
integrity_key_octets_of Aes128CtsHmacSha256128 = 16
integrity_key_octets_of Aes256CtsHmacSha384192 = 24

-- the error of a Ke that has not as many octets as a key, else of a Ki that has not so many
abbrev pub RejectsMessageKeys : CipherSuite → List ℕ → List ℕ → KerberosCryptoError → Type 0
RejectsMessageKeys suite ke ki e =
    IsKeyLengthError (key_octets_of suite) ke e
    ⊎ ((length ke ≡ key_octets_of suite) × IsKeyLengthError (integrity_key_octets_of suite) ki e)

-- they are those of this key, which has the suite's length, and of this usage
pub record IsPreparedFor (key : List ℕ) (usage : ℤ) (prepared : PreparedKeys) : Type 0 where
  pub size : length key ≡ key_octets_of prepared.suite
  pub ke : prepared.keys.ke ≡ encryption_key_of prepared.suite key usage
  pub ki : prepared.keys.ki ≡ integrity_key_of prepared.suite key usage

-- ---- for checksums

-- a checksum suite, and the key Kc
pub record PreparedChecksum : Type 0 where
  pub suite : ChecksumSuite
  pub kc : List ℕ

-- the key Kc
abbrev pub checksum_key_of : ChecksumSuite → List ℕ → ℤ → List ℕ
checksum_key_of checksum.HmacSha196Aes128 key usage = aes_kc key usage
checksum_key_of checksum.HmacSha196Aes256 key usage = aes_kc key usage
checksum_key_of checksum.HmacSha1Des3Kd key usage = des3_kc key usage
checksum_key_of checksum.HmacSha256128Aes128 key usage = sha2_kc Aes128 key usage
checksum_key_of checksum.HmacSha384192Aes256 key usage = sha2_kc Aes256 key usage

-- it is that of this key, which has the suite's length, and of this usage
pub record IsChecksumPreparedFor (key : List ℕ) (usage : ℤ) (prepared : PreparedChecksum) : Type 0 where
  pub size : length key ≡ checksum_key_octets_of prepared.suite
  pub kc : prepared.kc ≡ checksum_key_of prepared.suite key usage
