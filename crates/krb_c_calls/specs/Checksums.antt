-- Checksums of messages that stand alone (RFC 3961, 4 and 5.4; RFC 8009, 6).
use Rattle.std.specs.Prelude.{◌≡◌, ◌≢◌, ◌⊎◌, ℕ, ℤ, List, length}
use Rattle.krb_crypto.specs.declared.checksum_suite.ChecksumSuite.{ChecksumSuite}
use Rattle.krb_crypto.specs.Suites.{NoSuite}
use Rattle.krb_crypto.specs.BySuite.{checksum_key_octets_of, sum_of}
use Rattle.krb_c_calls.specs.Numbers.{checksum_number}

-- The octets are the message's checksum under a key of the suite's length.
abbrev pub IsChecksumBy : ChecksumSuite → List ℕ → ℤ → List ℕ → List ℕ → Type 0
IsChecksumBy suite key usage message octets = (length key ≡ checksum_key_octets_of suite) × (octets ≡ sum_of suite key usage message)

-- The key has another length (5); else memory was wanting (2).
abbrev pub RefusesChecksumBy : ChecksumSuite → List ℕ → ℕ → Type 0
RefusesChecksumBy suite key status =
    ((length key ≢ checksum_key_octets_of suite) × (status ≡ 5))
    ⊎ ((length key ≡ checksum_key_octets_of suite) × (status ≡ 2))

-- The same under the suite of this number.
abbrev pub IsChecksum : ℤ → List ℕ → ℤ → List ℕ → List ℕ → Type 0
IsChecksum number key usage message octets =
    (suite : ChecksumSuite) × (checksum_number suite ≡ number) × IsChecksumBy suite key usage message octets

-- No suite has the number (3), or the suite of this number refuses.
abbrev pub RefusesChecksum : ℤ → List ℕ → ℕ → Type 0
RefusesChecksum number key status =
    (NoSuite checksum_number number × (status ≡ 3))
    ⊎ ((suite : ChecksumSuite) × (checksum_number suite ≡ number) × RefusesChecksumBy suite key status)

-- The key has another length (5); else the octets are the message's checksum (0), or are not (7).
abbrev pub IsVerificationBy : ChecksumSuite → List ℕ → ℤ → List ℕ → List ℕ → ℕ → Type 0
IsVerificationBy suite key usage message octets status =
    ((length key ≢ checksum_key_octets_of suite) × (status ≡ 5))
    ⊎ ((length key ≡ checksum_key_octets_of suite) × (octets ≡ sum_of suite key usage message) × (status ≡ 0))
    ⊎ ((length key ≡ checksum_key_octets_of suite) × (octets ≢ sum_of suite key usage message) × (status ≡ 7))

abbrev pub IsVerification : ℤ → List ℕ → ℤ → List ℕ → List ℕ → ℕ → Type 0
IsVerification number key usage message octets status =
    (NoSuite checksum_number number × (status ≡ 3))
    ⊎ ((suite : ChecksumSuite) × (checksum_number suite ≡ number) × IsVerificationBy suite key usage message octets status)
