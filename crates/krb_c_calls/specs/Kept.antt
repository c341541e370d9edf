-- Keys that a caller keeps: what is derived from a key for a usage (RFC 3961, 5.3; RFC 8009, 5).
use Rattle.std.specs.Prelude.{◌≡◌, ◌≢◌, ◌⊎◌, ◌-◌, ℕ, ℤ, List, length, take, drop, replicate}
use Rattle.krb_crypto.specs.BySuite.{key_octets_of, integrity_key_of}
use Rattle.krb_crypto.specs.PreparedKeys.{encryption_key_of, integrity_key_octets_of}
use Rattle.krb_crypto.specs.Suites.{NoSuite}
use Rattle.krb_crypto.specs.declared.cipher_suite.CipherSuite.{CipherSuite}
use Rattle.krb_c_calls.specs.Numbers.{etype_number}
use Rattle.krb_c_calls.specs.declared.kept.KeptKey.{KeptKey}

-- A field of 32 octets holds this key of so many octets, and zeros behind it.
abbrev pub Holds : ℕ → List ℕ → List ℕ → Type 0
Holds size key field = (take size field ≡ key) × (drop size field ≡ replicate (32 - size) 0)

-- It holds the encryption type of the suite, and Ke and Ki of this key, which has the suite's length, for this usage.
pub record IsKeptBy (suite : CipherSuite) (key : List ℕ) (usage : ℤ) (kept : KeptKey) : Type 0 where
  pub number : etype_number suite ≡ kept.etype
  pub size : length key ≡ key_octets_of suite
  pub ke : Holds (key_octets_of suite) (encryption_key_of suite key usage) kept.ke
  pub ki : Holds (integrity_key_octets_of suite) (integrity_key_of suite key usage) kept.ki

abbrev pub IsKeptKey : List ℕ → ℤ → KeptKey → Type 0
IsKeptKey key usage kept = (suite : CipherSuite) × IsKeptBy suite key usage kept

-- No suite has the number (3), or the key has another length than the suite's (5).
abbrev pub RefusesKey : ℤ → List ℕ → ℕ → Type 0
RefusesKey number key status =
    (NoSuite etype_number number × (status ≡ 3))
    ⊎ ((suite : CipherSuite) × (etype_number suite ≡ number) × (length key ≢ key_octets_of suite) × (status ≡ 5))

-- The caller's has become that of this key and usage; or it is refused, and is as it was.
abbrev pub IsKeeping : ℤ → List ℕ → ℤ → KeptKey → KeptKey → ℕ → Type 0
IsKeeping number key usage before after status =
    ((status ≡ 0) × (after.etype ≡ number) × IsKeptKey key usage after)
    ⊎ (RefusesKey number key status × (after ≡ before))
