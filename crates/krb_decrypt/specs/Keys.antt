-- Keys with names, and what is encrypted under them (RFC 3961, 5.3).
use Rattle.std.specs.Prelude.{◌≡◌, ◌↔◌, ◌≤◌, ◌++◌, replicate, ℕ, ℤ, pos, if◌then◌else◌, List, Option, None, Some, length}
use Rattle.std.specs.Ordering.{int_eq}
use Rattle.krb_crypto_message.specs.Sealing.{IsGiven}
use Rattle.krb_crypto.specs.BySuite.{IsSealed, confounder_octets_of, key_octets_of}
use Rattle.krb_crypto.specs.declared.cipher_suite.CipherSuite.{CipherSuite}
use Rattle.krb_crypto.specs.declared.cipher_suite.CipherSuite.TheVariants as suites

-- a key, and what it is called
pub record NamedKey : Type 0 where
  pub suite : CipherSuite
  pub octets : List ℕ
  pub name : List ℕ

-- the suite of an encryption type (RFC 3961, 8; RFC 3962, 7; RFC 8009, 7)
abbrev pub suite_numbered : ℤ → Option CipherSuite
suite_numbered z =
    if int_eq z (pos 16) then Some suites.Des3CbcSha1Kd
    else if int_eq z (pos 17) then Some suites.Aes128CtsHmacSha196
    else if int_eq z (pos 18) then Some suites.Aes256CtsHmacSha196
    else if int_eq z (pos 19) then Some suites.Aes128CtsHmacSha256128
    else if int_eq z (pos 20) then Some suites.Aes256CtsHmacSha384192
    else None

abbrev pub suite_of : Option ℤ → Option CipherSuite
suite_of None = None
suite_of (Some z) = suite_numbered z

-- the key has the suite's length, and for this usage some confounder gives these octets for the payload
pub record IsSealedOf (key : NamedKey) (usage : ℤ) (cipher payload : List ℕ) : Type 0 where
  pub size : length key.octets ≡ key_octets_of key.suite
  pub given : IsGiven (IsSealed key.suite key.octets usage) (confounder_octets_of key.suite) cipher payload

-- The octets are the payload with at most so many zeros behind it.
pub record HasZeros (most : ℕ) (payload padded : List ℕ) : Type 0 where
  pub zeros : ℕ
  pub few : zeros ≤ most
  pub concatenated : padded ≡ payload ++ replicate zeros 0

-- how many zeros may fill a payload of a suite up to whole blocks (RFC 3961, 6.3)
abbrev pub zeros_of : CipherSuite → ℕ
zeros_of suites.Des3CbcSha1Kd = 7
zeros_of other = 0

-- the payloads that are encrypted to these octets are those which with zeros are the decrypted octets, and no others
pub record Decrypts (key : NamedKey) (usage : ℤ) (cipher decrypted : List ℕ) : Type 0 where
  pub exactly : (payload : List ℕ) → IsSealedOf key usage cipher payload ↔ HasZeros (zeros_of key.suite) payload decrypted
  pub some : IsSealedOf key usage cipher decrypted

-- no payload is encrypted to these octets
abbrev pub SealsNone : NamedKey → ℤ → List ℕ → Type 0
SealsNone key usage cipher = (payload : List ℕ) → IsSealedOf key usage cipher payload → ⊥
