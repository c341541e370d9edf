-- What each call makes, and why it refuses.
use Rattle.std.specs.Prelude.{◌≡◌, ◌≢◌, ◌⊎◌, ℕ, ℤ, List, length}
use Rattle.krb_crypto_message.specs.Sealing.{IsTheOne, IsGiven, Opens, HasNoPayload}
use Rattle.krb_crypto.specs.declared.cipher_suite.CipherSuite.{CipherSuite}
use Rattle.krb_crypto.specs.Suites.{NoSuite}
use Rattle.krb_crypto.specs.BySuite.{IsSealed, key_octets_of, confounder_octets_of, padding_octets_of, error_of}
use Rattle.krb_c_calls.specs.Numbers.{etype_number}
use Rattle.krb_c_calls.specs.Statuses.{crypto_status}

-- ---- messages encrypted (RFC 3961, 3 and 5.3; RFC 3962, 6; RFC 8009, 5)

-- The octets are the one list that the payload is sealed to under the suite, by a key and a confounder of its lengths.
abbrev pub IsEncryptionBy : CipherSuite → List ℕ → ℤ → List ℕ → List ℕ → List ℕ → Type 0
IsEncryptionBy suite key usage confounder payload octets =
    (length confounder ≡ confounder_octets_of suite) × (length key ≡ key_octets_of suite)
    × IsTheOne (IsSealed suite key usage confounder payload) octets

-- The confounder has another length (4); else the key has (5); else memory was wanting (2).
abbrev pub RefusesEncryptionBy : CipherSuite → List ℕ → List ℕ → ℕ → Type 0
RefusesEncryptionBy suite key confounder status =
    ((length confounder ≢ confounder_octets_of suite) × (status ≡ 4))
    ⊎ ((length confounder ≡ confounder_octets_of suite) × (length key ≢ key_octets_of suite) × (status ≡ 5))
    ⊎ ((length confounder ≡ confounder_octets_of suite) × (length key ≡ key_octets_of suite) × (status ≡ 2))

-- The same under the suite of this number.
abbrev pub IsEncryption : ℤ → List ℕ → ℤ → List ℕ → List ℕ → List ℕ → Type 0
IsEncryption number key usage confounder payload octets =
    (suite : CipherSuite) × (etype_number suite ≡ number) × IsEncryptionBy suite key usage confounder payload octets

-- No suite has the number (3), or the suite of this number refuses.
abbrev pub RefusesEncryption : ℤ → List ℕ → List ℕ → ℕ → Type 0
RefusesEncryption number key confounder status =
    (NoSuite etype_number number × (status ≡ 3))
    ⊎ ((suite : CipherSuite) × (etype_number suite ≡ number) × RefusesEncryptionBy suite key confounder status)

-- ---- messages decrypted

-- The payload is the one, with its padding, that some confounder of the suite's length seals to the octets under a key of its length.
abbrev pub IsDecryptionBy : CipherSuite → List ℕ → ℤ → List ℕ → List ℕ → Type 0
IsDecryptionBy suite key usage octets payload =
    (length key ≡ key_octets_of suite)
    × Opens (padding_octets_of suite) (IsGiven (IsSealed suite key usage) (confounder_octets_of suite) octets) payload

-- The key has another length (5); else memory was wanting (2), or no payload is sealed to the octets, and the status is that of the suite's
-- error: 6 where they are too few, 8 where they are no whole blocks of triple DES, and else 7.
abbrev pub RefusesDecryptionBy : CipherSuite → List ℕ → ℤ → List ℕ → ℕ → Type 0
RefusesDecryptionBy suite key usage octets status =
    ((length key ≢ key_octets_of suite) × (status ≡ 5))
    ⊎ ((length key ≡ key_octets_of suite) × (status ≡ 2))
    ⊎ ((length key ≡ key_octets_of suite) × HasNoPayload (IsSealed suite key usage) (confounder_octets_of suite) octets
    × (status ≡ crypto_status (error_of suite key octets)))

abbrev pub IsDecryption : ℤ → List ℕ → ℤ → List ℕ → List ℕ → Type 0
IsDecryption number key usage octets payload =
    (suite : CipherSuite) × (etype_number suite ≡ number) × IsDecryptionBy suite key usage octets payload

abbrev pub RefusesDecryption : ℤ → List ℕ → ℤ → List ℕ → ℕ → Type 0
RefusesDecryption number key usage octets status =
    (NoSuite etype_number number × (status ≡ 3))
    ⊎ ((suite : CipherSuite) × (etype_number suite ≡ number) × RefusesDecryptionBy suite key usage octets status)
