-- What each suite means, by cases (RFC 3961, 6.3; RFC 3962, 6; RFC 8009, 5).
use Rattle.std.specs.Prelude.{ℕ, ℤ, List}
use Rattle.krb_crypto_hash.specs.Hmac.{hmac}
use Rattle.krb_crypto_hash.specs.declared.error.KerberosCryptoError.{KerberosCryptoError}
use Rattle.krb_crypto_block.specs.declared.aes.AesSize.TheVariants.{Aes128, Aes256}
use Rattle.krb_crypto_message.specs.AesSha2.{IsSealedSha2, IsSha2PasswordKey, sha2_ki, sha2_mac, sha2_error, sha2_sum}
use Rattle.krb_crypto_message.specs.Derive.{IsAesPasswordKey, IsDes3PasswordKey}
use Rattle.krb_crypto_message.specs.RandomToKey.{random_to_key}
use Rattle.krb_crypto_message.specs.Sealed.{IsSealedAes, aes_ki, aes_sum, mac_96, aes_error, IsSealedDes3, des3_ki, des3_sum, des3_error, IsNoDes3Password}
use Rattle.krb_crypto.specs.declared.cipher_suite.CipherSuite.{CipherSuite}
use Rattle.krb_crypto.specs.declared.cipher_suite.CipherSuite.TheVariants.{Aes128CtsHmacSha196, Aes256CtsHmacSha196, Des3CbcSha1Kd, Aes128CtsHmacSha256128, Aes256CtsHmacSha384192}
use Rattle.krb_crypto.specs.declared.checksum_suite.ChecksumSuite.{ChecksumSuite}
use Rattle.krb_crypto.specs.declared.checksum_suite.ChecksumSuite.TheVariants as checksum

-- ---- ciphers

-- under this key, key usage and confounder the payload is sealed to these octets
abbrev pub IsSealed : CipherSuite → List ℕ → ℤ → List ℕ → List ℕ → List ℕ → Type 0
IsSealed Aes128CtsHmacSha196 key usage confounder payload octets = IsSealedAes key usage confounder payload octets
IsSealed Aes256CtsHmacSha196 key usage confounder payload octets = IsSealedAes key usage confounder payload octets
IsSealed Des3CbcSha1Kd key usage confounder payload octets = IsSealedDes3 key usage confounder payload octets
IsSealed Aes128CtsHmacSha256128 key usage confounder payload octets = IsSealedSha2 Aes128 key usage confounder payload octets
IsSealed Aes256CtsHmacSha384192 key usage confounder payload octets = IsSealedSha2 Aes256 key usage confounder payload octets

-- the octets of a key
abbrev pub key_octets_of : CipherSuite → ℕ
key_octets_of Aes128CtsHmacSha196 = 16
key_octets_of Aes256CtsHmacSha196 = 32
key_octets_of Des3CbcSha1Kd = 24
key_octets_of Aes128CtsHmacSha256128 = 16
key_octets_of Aes256CtsHmacSha384192 = 32

-- those of a confounder
abbrev pub confounder_octets_of : CipherSuite → ℕ
confounder_octets_of Aes128CtsHmacSha196 = 16
confounder_octets_of Aes256CtsHmacSha196 = 16
confounder_octets_of Des3CbcSha1Kd = 8
confounder_octets_of Aes128CtsHmacSha256128 = 16
confounder_octets_of Aes256CtsHmacSha384192 = 16

-- those to a multiple of which a payload is padded
abbrev pub padding_octets_of : CipherSuite → ℕ
padding_octets_of Aes128CtsHmacSha196 = 1
padding_octets_of Aes256CtsHmacSha196 = 1
padding_octets_of Des3CbcSha1Kd = 8
padding_octets_of Aes128CtsHmacSha256128 = 1
padding_octets_of Aes256CtsHmacSha384192 = 1

-- those of the checksum that is sealed in
abbrev pub checksum_octets_of : CipherSuite → ℕ
checksum_octets_of Aes128CtsHmacSha196 = 12
checksum_octets_of Aes256CtsHmacSha196 = 12
checksum_octets_of Des3CbcSha1Kd = 20
checksum_octets_of Aes128CtsHmacSha256128 = 16
checksum_octets_of Aes256CtsHmacSha384192 = 24

-- the key Ki, and the checksum of a message under it
abbrev pub integrity_key_of : CipherSuite → List ℕ → ℤ → List ℕ
integrity_key_of Aes128CtsHmacSha196 key usage = aes_ki key usage
integrity_key_of Aes256CtsHmacSha196 key usage = aes_ki key usage
integrity_key_of Des3CbcSha1Kd key usage = des3_ki key usage
integrity_key_of Aes128CtsHmacSha256128 key usage = sha2_ki Aes128 key usage
integrity_key_of Aes256CtsHmacSha384192 key usage = sha2_ki Aes256 key usage

abbrev pub integrity_checksum_of : CipherSuite → List ℕ → ℤ → List ℕ → List ℕ
integrity_checksum_of Aes128CtsHmacSha196 key usage message = mac_96 (aes_ki key usage) message
integrity_checksum_of Aes256CtsHmacSha196 key usage message = mac_96 (aes_ki key usage) message
integrity_checksum_of Des3CbcSha1Kd key usage message = hmac (des3_ki key usage) message
integrity_checksum_of Aes128CtsHmacSha256128 key usage message = sha2_mac Aes128 (sha2_ki Aes128 key usage) message
integrity_checksum_of Aes256CtsHmacSha384192 key usage message = sha2_mac Aes256 (sha2_ki Aes256 key usage) message

-- the bits of a seed, and the key that a seed gives
abbrev pub seed_bits_of : CipherSuite → ℕ
seed_bits_of Aes128CtsHmacSha196 = 128
seed_bits_of Aes256CtsHmacSha196 = 256
seed_bits_of Des3CbcSha1Kd = 168
seed_bits_of Aes128CtsHmacSha256128 = 128
seed_bits_of Aes256CtsHmacSha384192 = 256

abbrev pub key_of_seed_of : CipherSuite → List ℕ → List ℕ
key_of_seed_of Aes128CtsHmacSha196 seed = seed
key_of_seed_of Aes256CtsHmacSha196 seed = seed
key_of_seed_of Des3CbcSha1Kd seed = random_to_key seed
key_of_seed_of Aes128CtsHmacSha256128 seed = seed
key_of_seed_of Aes256CtsHmacSha384192 seed = seed

-- this password and salt give this key
abbrev pub IsPasswordKey : CipherSuite → List ℕ → List ℕ → List ℕ → Type 0
IsPasswordKey Aes128CtsHmacSha196 password salt key = IsAesPasswordKey 16 password salt key
IsPasswordKey Aes256CtsHmacSha196 password salt key = IsAesPasswordKey 32 password salt key
IsPasswordKey Des3CbcSha1Kd password salt key = IsDes3PasswordKey password salt key
IsPasswordKey Aes128CtsHmacSha256128 password salt key = IsSha2PasswordKey Aes128 password salt key
IsPasswordKey Aes256CtsHmacSha384192 password salt key = IsSha2PasswordKey Aes256 password salt key

-- why octets are not opened under this key
abbrev pub error_of : CipherSuite → List ℕ → List ℕ → KerberosCryptoError
error_of Aes128CtsHmacSha196 key octets = aes_error 16 key octets
error_of Aes256CtsHmacSha196 key octets = aes_error 32 key octets
error_of Des3CbcSha1Kd key octets = des3_error key octets
error_of Aes128CtsHmacSha256128 key octets = sha2_error Aes128 key octets
error_of Aes256CtsHmacSha384192 key octets = sha2_error Aes256 key octets

-- why a password and a salt give no key: under AES all do
abbrev pub IsNoPassword : CipherSuite → List ℕ → List ℕ → KerberosCryptoError → Type 0
IsNoPassword Aes128CtsHmacSha196 password salt e = ⊥
IsNoPassword Aes256CtsHmacSha196 password salt e = ⊥
IsNoPassword Des3CbcSha1Kd password salt e = IsNoDes3Password password salt e
IsNoPassword Aes128CtsHmacSha256128 password salt e = ⊥
IsNoPassword Aes256CtsHmacSha384192 password salt e = ⊥

-- the suite of the checksum that is sealed in
abbrev pub checksum_suite_of : CipherSuite → ChecksumSuite
checksum_suite_of Aes128CtsHmacSha196 = checksum.HmacSha196Aes128
checksum_suite_of Aes256CtsHmacSha196 = checksum.HmacSha196Aes256
checksum_suite_of Des3CbcSha1Kd = checksum.HmacSha1Des3Kd
checksum_suite_of Aes128CtsHmacSha256128 = checksum.HmacSha256128Aes128
checksum_suite_of Aes256CtsHmacSha384192 = checksum.HmacSha384192Aes256

-- ---- checksums

-- the octets of a key
abbrev pub checksum_key_octets_of : ChecksumSuite → ℕ
checksum_key_octets_of checksum.HmacSha196Aes128 = 16
checksum_key_octets_of checksum.HmacSha196Aes256 = 32
checksum_key_octets_of checksum.HmacSha1Des3Kd = 24
checksum_key_octets_of checksum.HmacSha256128Aes128 = 16
checksum_key_octets_of checksum.HmacSha384192Aes256 = 32

-- the checksum of a message under a key and a key usage (RFC 3961, 5.4)
abbrev pub sum_of : ChecksumSuite → List ℕ → ℤ → List ℕ → List ℕ
sum_of checksum.HmacSha196Aes128 key usage message = aes_sum key usage message
sum_of checksum.HmacSha196Aes256 key usage message = aes_sum key usage message
sum_of checksum.HmacSha1Des3Kd key usage message = des3_sum key usage message
sum_of checksum.HmacSha256128Aes128 key usage message = sha2_sum Aes128 key usage message
sum_of checksum.HmacSha384192Aes256 key usage message = sha2_sum Aes256 key usage message
