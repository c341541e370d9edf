-- Parts that a client seals, and checksums that it makes (RFC 3961, 4 and 5.3; RFC 4120, 5.2.9).
use Rattle.std.specs.Prelude.{◌≡◌, ◌≢◌, ◌⊎◌, ℕ, ℤ, pos, List, length, None}
use Rattle.krb_crypto_message.specs.Sealing.{IsTheOne}
use Rattle.krb_crypto.specs.BySuite.{IsSealed, checksum_suite_of, confounder_octets_of, key_octets_of, sum_of}
use Rattle.krb_crypto.specs.Suites.{checksum_type, etype}
use Rattle.krb_crypto.specs.declared.cipher_suite.CipherSuite.{CipherSuite}
use Rattle.krb_der_core.specs.declared.der.DerEncode.{Ghosts as EncodingOf}
use Rattle.krb_types.specs.declared.data_types.checksums.Checksum.{Checksum}
use Rattle.krb_types.specs.declared.data_types.encryption.EncryptedData.{EncryptedData}
use Rattle.krb_types.specs.declared.data_types.encryption.EncryptionKey.{EncryptionKey}
use Rattle.krb_client.specs.declared.requests.error.RequestError.{RequestError}
use Rattle.krb_client.specs.declared.requests.error.RequestError.TheVariants as errors
use Rattle.krb_client.specs.declared.requests.key.LentKey.{LentKey}

-- a key and its suite
pub record SuiteKey : Type 0 where
  pub suite : CipherSuite
  pub octets : List ℕ

abbrev pub key_of : LentKey → SuiteKey
key_of k = record { suite = k.suite.now; octets = k.octets.now }

-- it has the suite's length
abbrev pub IsSized : SuiteKey → Type 0
IsSized k = length k.octets ≡ key_octets_of k.suite

-- EncryptedData of these octets, with the number of an encryption type and no version of the key
abbrev pub encrypted : ℤ → List ℕ → EncryptedData
encrypted number cipher = record { etype = number; kvno = record { 0 = None }; cipher = cipher }

-- Checksum of these octets
abbrev pub checksum_value : ℤ → List ℕ → Checksum
checksum_value number octets = record { cksumtype = number; checksum = octets }

-- EncryptionKey of these octets
abbrev pub key_value : ℤ → List ℕ → EncryptionKey
key_value number octets = record { key_type = number; key_value = octets }

-- The part has the number of the key's suite, and the octets are what the suite makes of the value's one encoding, under the key, for this usage and under this
-- confounder.
pub record IsSealedPart {A : Type 0} (t : EncodingOf A) (k : SuiteKey) (usage : ℤ) (confounder : List ℕ) (v : A) (e : EncryptedData) : Type 0 where
  pub valid : t.is_value v
  pub confounder_size : length confounder ≡ confounder_octets_of k.suite
  pub key_size : IsSized k
  pub cipher : List ℕ
  pub seals : IsTheOne (IsSealed k.suite k.octets usage confounder (t.enc v)) cipher
  pub is_part : e ≡ encrypted (pos (etype k.suite)) cipher

-- why nothing is sealed: the confounder is not of the suite's length; else the key is not
abbrev pub IsNotSealed : SuiteKey → List ℕ → RequestError → Type 0
IsNotSealed k confounder e =
    ((e ≡ errors.Confounder) × (length confounder ≢ confounder_octets_of k.suite))
    ⊎ ((e ≡ errors.Key) × (length confounder ≡ confounder_octets_of k.suite) × (length k.octets ≢ key_octets_of k.suite))

-- the checksum of the key's suite over these octets, under the key, for this usage
pub record IsChecksum (k : SuiteKey) (usage : ℤ) (octets : List ℕ) (c : Checksum) : Type 0 where
  pub key_size : IsSized k
  pub is_checksum : c ≡ checksum_value (pos (checksum_type (checksum_suite_of k.suite))) (sum_of (checksum_suite_of k.suite) k.octets usage octets)
