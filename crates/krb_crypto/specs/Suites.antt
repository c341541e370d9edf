-- The suites and their numbers (RFC 3961, 8; RFC 3962, 7; RFC 8009, 7).
use Rattle.std.specs.Prelude.{◌≡◌, ℕ, List, Result, MatchResult}
use Rattle.krb_crypto_hash.specs.declared.error.KerberosCryptoError.{KerberosCryptoError}
use Rattle.krb_crypto_hash.specs.declared.error.KerberosCryptoError.TheVariants as errors
use Rattle.krb_crypto.specs.declared.cipher_suite.CipherSuite.{CipherSuite}
use Rattle.krb_crypto.specs.declared.cipher_suite.CipherSuite.TheVariants as cipher
use Rattle.krb_crypto.specs.declared.checksum_suite.ChecksumSuite.{ChecksumSuite}
use Rattle.krb_crypto.specs.declared.checksum_suite.ChecksumSuite.TheVariants as checksum

-- the number of the encryption type
abbrev pub etype : CipherSuite → ℕ
etype cipher.Des3CbcSha1Kd = 16
etype cipher.Aes128CtsHmacSha196 = 17
etype cipher.Aes256CtsHmacSha196 = 18
etype cipher.Aes128CtsHmacSha256128 = 19
etype cipher.Aes256CtsHmacSha384192 = 20

-- the number of the checksum type
abbrev pub checksum_type : ChecksumSuite → ℕ
checksum_type checksum.HmacSha1Des3Kd = 12
checksum_type checksum.HmacSha196Aes128 = 15
checksum_type checksum.HmacSha196Aes256 = 16
checksum_type checksum.HmacSha256128Aes128 = 19
checksum_type checksum.HmacSha384192Aes256 = 20

-- no suite has this identifier
abbrev pub NoSuite : {S A : Type 0} → (S → A) → A → Type 0
NoSuite {S} identifier_of identifier = (suite : S) → identifier_of suite ≡ identifier → ⊥

-- the suite of this number is returned, and a number of none is rejected
abbrev pub IsNumbered : {S : Type 0} → (S → ℕ) → ℕ → Result S KerberosCryptoError → Type 0
IsNumbered number n r = MatchResult r (λ suite. number suite ≡ n) (λ e. NoSuite number n × (e ≡ errors.AlgorithmIdentifier n))

-- the error holds these octets, which name no suite
abbrev pub IsIdentifierData : List ℕ → KerberosCryptoError → Type 0
IsIdentifierData octets (errors.AlgorithmIdentifierData identifier) = identifier.items ≡ octets
IsIdentifierData octets (errors.KeyLength n m) = ⊥
IsIdentifierData octets (errors.CipherLength n m) = ⊥
IsIdentifierData octets (errors.AlgorithmIdentifier n) = ⊥
IsIdentifierData octets errors.IntegrityCheck = ⊥
IsIdentifierData octets (errors.CipherError s) = ⊥
IsIdentifierData octets errors.CipherUnpad = ⊥
IsIdentifierData octets errors.CipherPad = ⊥
IsIdentifierData octets (errors.SeedBitLen s) = ⊥
IsIdentifierData octets errors.OutOfMemory = ⊥
