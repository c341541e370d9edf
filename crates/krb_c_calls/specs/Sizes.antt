-- How many octets there are of keys, seeds, confounders, encrypted messages and checksums (RFC 3961, 5.3 and 6.3; RFC 3962, 6; RFC 8009, 5).
use Rattle.std.specs.Prelude.{◌≡◌, ◌⊎◌, ◌+◌, ◌*◌, ◌/◌, ◌^◌, ◌<◌, ◌≤◌, ℕ, ℤ}
use Rattle.krb_crypto.specs.declared.cipher_suite.CipherSuite.{CipherSuite}
use Rattle.krb_crypto.specs.declared.cipher_suite.CipherSuite.TheVariants.{Aes128CtsHmacSha196, Aes256CtsHmacSha196, Des3CbcSha1Kd, Aes128CtsHmacSha256128, Aes256CtsHmacSha384192}
use Rattle.krb_crypto.specs.declared.checksum_suite.ChecksumSuite.{ChecksumSuite}
use Rattle.krb_crypto.specs.declared.checksum_suite.ChecksumSuite.TheVariants as checksum
use Rattle.krb_crypto.specs.Suites.{NoSuite}
use Rattle.krb_c_calls.specs.Numbers.{etype_number}

-- The size of the suite of this number; 0 where no suite has the number.
abbrev pub IsSizeOf : {S : Type 0} → (S → ℤ) → (S → ℕ) → ℤ → ℕ → Type 0
IsSizeOf {S} number size_of n size = ((suite : S) × (number suite ≡ n) × (size ≡ size_of suite)) ⊎ (NoSuite number n × (size ≡ 0))

-- the octets that a payload of so many is encrypted to: the confounder, the payload, of whole blocks under triple DES, and the checksum
abbrev pub sealed_octets_of : CipherSuite → ℕ → ℕ
sealed_octets_of Aes128CtsHmacSha196 payload = 16 + payload + 12
sealed_octets_of Aes256CtsHmacSha196 payload = 16 + payload + 12
sealed_octets_of Des3CbcSha1Kd payload = 8 + (payload + 7) / 8 * 8 + 20
sealed_octets_of Aes128CtsHmacSha256128 payload = 16 + payload + 16
sealed_octets_of Aes256CtsHmacSha384192 payload = 16 + payload + 24

-- those of a checksum that stands alone
abbrev pub sum_octets_of : ChecksumSuite → ℕ
sum_octets_of checksum.HmacSha196Aes128 = 12
sum_octets_of checksum.HmacSha196Aes256 = 12
sum_octets_of checksum.HmacSha1Des3Kd = 20
sum_octets_of checksum.HmacSha256128Aes128 = 16
sum_octets_of checksum.HmacSha384192Aes256 = 24

-- The number, where 64 bits hold it, and else 0.
abbrev pub IsWord : ℕ → ℕ → Type 0
IsWord n word = ((n < 2 ^ 64) × (word ≡ n)) ⊎ ((2 ^ 64 ≤ n) × (word ≡ 0))

-- The octets that a payload of so many is encrypted to under the suite of this number; 0 where no suite has the number, or where a word does not
-- hold them.
abbrev pub IsEncryptedSize : ℤ → ℕ → ℕ → Type 0
IsEncryptedSize number payload size =
    ((suite : CipherSuite) × (etype_number suite ≡ number) × IsWord (sealed_octets_of suite payload) size) ⊎ (NoSuite etype_number number × (size ≡ 0))
