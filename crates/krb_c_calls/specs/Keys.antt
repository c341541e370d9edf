-- Keys made of passwords and of random octets (RFC 3961, 3: string-to-key, random-to-key), and n-fold (RFC 3961, 5.1).
use Rattle.std.specs.Prelude.{◌≡◌, ◌≢◌, ◌⊎◌, ◌<◌, ◌*◌, ◌/◌, ℕ, ℤ, List, length}
use Rattle.krb_crypto_hash.specs.declared.error.KerberosCryptoError.TheVariants.{KeyLength}
use Rattle.krb_crypto_block.specs.Fold.{fold}
use Rattle.krb_crypto_message.specs.Sealing.{IsTheOne, IsOfNone}
use Rattle.krb_crypto.specs.declared.cipher_suite.CipherSuite.{CipherSuite}
use Rattle.krb_crypto.specs.Suites.{NoSuite}
use Rattle.krb_crypto.specs.BySuite.{key_octets_of, IsPasswordKey, IsNoPassword, seed_bits_of, key_of_seed_of}
use Rattle.krb_c_calls.specs.Numbers.{etype_number}

-- ---- passwords

-- The key, of the suite's length, is the one that the password and the salt give.
abbrev pub IsKeyOfPasswordBy : CipherSuite → List ℕ → List ℕ → List ℕ → Type 0
IsKeyOfPasswordBy suite password salt key = (length key ≡ key_octets_of suite) × IsTheOne (IsPasswordKey suite password salt) key

-- Password and salt give no key, as the two empty ones under triple DES alone (5); or memory was wanting (2).
abbrev pub RefusesPasswordBy : CipherSuite → List ℕ → List ℕ → ℕ → Type 0
RefusesPasswordBy suite password salt status =
    (IsNoPassword suite password salt (KeyLength 0 1) × IsOfNone (IsPasswordKey suite password salt) × (status ≡ 5)) ⊎ (status ≡ 2)

-- The same under the suite of this number.
abbrev pub IsKeyOfPassword : ℤ → List ℕ → List ℕ → List ℕ → Type 0
IsKeyOfPassword number password salt key =
    (suite : CipherSuite) × (etype_number suite ≡ number) × IsKeyOfPasswordBy suite password salt key

-- No suite has the number (3), or the suite of this number refuses.
abbrev pub RefusesPassword : ℤ → List ℕ → List ℕ → ℕ → Type 0
RefusesPassword number password salt status =
    (NoSuite etype_number number × (status ≡ 3))
    ⊎ ((suite : CipherSuite) × (etype_number suite ≡ number) × RefusesPasswordBy suite password salt status)

-- ---- random octets

-- the octets of a seed
abbrev pub seed_octets_of : CipherSuite → ℕ
seed_octets_of suite = seed_bits_of suite / 8

-- The key, of the suite's length, is the one that the seed, of its length too, gives.
abbrev pub IsKeyOfSeedBy : CipherSuite → List ℕ → List ℕ → Type 0
IsKeyOfSeedBy suite seed key = (length seed ≡ seed_octets_of suite) × (length key ≡ key_octets_of suite) × (key ≡ key_of_seed_of suite seed)

-- The seed has another length (13); else memory was wanting (2).
abbrev pub RefusesSeedBy : CipherSuite → List ℕ → ℕ → Type 0
RefusesSeedBy suite seed status =
    ((length seed ≢ seed_octets_of suite) × (status ≡ 13))
    ⊎ ((length seed ≡ seed_octets_of suite) × (status ≡ 2))

-- The same under the suite of this number.
abbrev pub IsKeyOfSeed : ℤ → List ℕ → List ℕ → Type 0
IsKeyOfSeed number seed key = (suite : CipherSuite) × (etype_number suite ≡ number) × IsKeyOfSeedBy suite seed key

-- No suite has the number (3), or the suite of this number refuses.
abbrev pub RefusesSeed : ℤ → List ℕ → ℕ → Type 0
RefusesSeed number seed status =
    (NoSuite etype_number number × (status ≡ 3))
    ⊎ ((suite : CipherSuite) × (etype_number suite ≡ number) × RefusesSeedBy suite seed status)

-- ---- n-fold

-- The octets are folded to as many as there is room for (0); or one of both is empty (14), and the room is as it was.
abbrev pub IsFolding : List ℕ → List ℕ → List ℕ → ℕ → Type 0
IsFolding octets before after status =
    ((0 < length octets) × (0 < length before) × (status ≡ 0) × (after ≡ fold octets (8 * length before)))
    ⊎ (((length octets ≡ 0) ⊎ (length before ≡ 0)) × (status ≡ 14) × (after ≡ before))
