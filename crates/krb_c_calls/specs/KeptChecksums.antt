-- Keys of checksums that a caller keeps: Kc of a key for a usage (RFC 3961, 5.4; RFC 8009, 6), and the checksums under it.
use Rattle.std.specs.Prelude.{◌≡◌, ◌≢◌, ◌⊎◌, ℕ, ℤ, List, length, take}
use Rattle.krb_crypto_block.specs.declared.aes.AesSize.TheVariants.{Aes128, Aes256}
use Rattle.krb_crypto_hash.specs.Hmac.{hmac}
use Rattle.krb_crypto_message.specs.AesSha2.{sha2_mac}
use Rattle.krb_crypto_message.specs.Sealed.{mac_96}
use Rattle.krb_crypto.specs.BySuite.{checksum_key_octets_of}
use Rattle.krb_crypto.specs.PreparedKeys.{checksum_key_of}
use Rattle.krb_crypto.specs.Suites.{NoSuite}
use Rattle.krb_crypto.specs.declared.checksum_suite.ChecksumSuite.{ChecksumSuite}
use Rattle.krb_crypto.specs.declared.checksum_suite.ChecksumSuite.TheVariants as checksum
use Rattle.krb_c_calls.specs.Checksums.{IsChecksum}
use Rattle.krb_c_calls.specs.Handing.{IsPut}
use Rattle.krb_c_calls.specs.Kept.{Holds}
use Rattle.krb_c_calls.specs.Numbers.{checksum_number}
use Rattle.krb_c_calls.specs.declared.kept_checksums.KeptChecksumKey.{KeptChecksumKey}

-- the octets of Kc: those of a key, and under RFC 8009 those of a checksum
abbrev pub kc_octets_of : ChecksumSuite → ℕ
kc_octets_of checksum.HmacSha196Aes128 = 16
kc_octets_of checksum.HmacSha196Aes256 = 32
kc_octets_of checksum.HmacSha1Des3Kd = 24
kc_octets_of checksum.HmacSha256128Aes128 = 16
kc_octets_of checksum.HmacSha384192Aes256 = 24

-- the checksum of a message under these octets as Kc (RFC 3961, 6.3; RFC 3962, 6; RFC 8009, 6)
abbrev pub sum_under : ChecksumSuite → List ℕ → List ℕ → List ℕ
sum_under checksum.HmacSha196Aes128 kc message = mac_96 kc message
sum_under checksum.HmacSha196Aes256 kc message = mac_96 kc message
sum_under checksum.HmacSha1Des3Kd kc message = hmac kc message
sum_under checksum.HmacSha256128Aes128 kc message = sha2_mac Aes128 kc message
sum_under checksum.HmacSha384192Aes256 kc message = sha2_mac Aes256 kc message

-- The octets are Kc of this key, which has the suite's length, for this usage, and zeros behind it.
abbrev pub IsKc : ChecksumSuite → List ℕ → ℤ → List ℕ → Type 0
IsKc suite key usage octets =
    (length key ≡ checksum_key_octets_of suite) × Holds (kc_octets_of suite) (checksum_key_of suite key usage) octets

-- It holds the checksum type of the suite, and Kc of this key and usage.
pub record IsChecksumKeptBy (suite : ChecksumSuite) (key : List ℕ) (usage : ℤ) (kept : KeptChecksumKey) : Type 0 where
  pub number : checksum_number suite ≡ kept.cksumtype
  pub kc : IsKc suite key usage kept.kc

abbrev pub IsKeptChecksumKey : List ℕ → ℤ → KeptChecksumKey → Type 0
IsKeptChecksumKey key usage kept = (suite : ChecksumSuite) × IsChecksumKeptBy suite key usage kept

-- The key has another length than the suite's (5); else, under triple DES alone, memory was wanting (2).
abbrev pub RefusesKc : ChecksumSuite → List ℕ → ℕ → Type 0
RefusesKc suite key status =
    ((length key ≢ checksum_key_octets_of suite) × (status ≡ 5))
    ⊎ ((suite ≡ checksum.HmacSha1Des3Kd) × (length key ≡ 24) × (status ≡ 2))

-- No suite has the number (3), or the suite of this number refuses.
abbrev pub RefusesChecksumKey : ℤ → List ℕ → ℕ → Type 0
RefusesChecksumKey number key status =
    (NoSuite checksum_number number × (status ≡ 3))
    ⊎ ((suite : ChecksumSuite) × (checksum_number suite ≡ number) × RefusesKc suite key status)

-- The caller's has become that of this key and usage; or it is refused, and is as it was.
abbrev pub IsChecksumKeeping : ℤ → List ℕ → ℤ → KeptChecksumKey → KeptChecksumKey → ℕ → Type 0
IsChecksumKeeping number key usage before after status =
    ((status ≡ 0) × (after.cksumtype ≡ number) × IsKeptChecksumKey key usage after)
    ⊎ (RefusesChecksumKey number key status × (after ≡ before))

-- These octets are the checksum that the suite of its number makes under the Kc that it holds, whatever that is.
abbrev pub IsSumOfKept : KeptChecksumKey → List ℕ → List ℕ → Type 0
IsSumOfKept kept message octets =
    (suite : ChecksumSuite) × (checksum_number suite ≡ kept.cksumtype) × (octets ≡ sum_under suite (take (kc_octets_of suite) kept.kc) message)

-- The message's checksum is put; nothing is refused.
abbrev pub IsChecksumPut : ℤ → List ℕ → ℤ → List ℕ → List ℕ → List ℕ → ℕ → ℕ → Type 0
IsChecksumPut number key usage message before after size status =
    (octets : List ℕ) × IsChecksum number key usage message octets × IsPut octets before after size status

-- No suite has its number (3).
abbrev pub RefusesKept : KeptChecksumKey → ℕ → Type 0
RefusesKept kept status = NoSuite checksum_number kept.cksumtype × (status ≡ 3)

-- No suite has its number (3); else the octets are the checksum that the suite makes under the Kc that it holds (0), or are not (7).
abbrev pub IsVerificationOfKept : KeptChecksumKey → List ℕ → List ℕ → ℕ → Type 0
IsVerificationOfKept kept message octets status =
    RefusesKept kept status
    ⊎ ((sum : List ℕ) × IsSumOfKept kept message sum × (((octets ≡ sum) × (status ≡ 0)) ⊎ ((octets ≢ sum) × (status ≡ 7))))
