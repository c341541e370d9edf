-- How a password becomes a key, with a number of iterations (RFC 3962, 4; RFC 8009, 4).
use Rattle.std.specs.Prelude.{◌≡◌, ◌⊎◌, ℕ, ◌<◌, ◌≤◌, ◌^◌, ◌==◌, List, length, codes, Option, Some, None, if◌then◌else◌}
use Rattle.std.specs.Int.{from_be_bytes, w32}
use Rattle.krb_crypto_block.specs.Size.{key_octets}
use Rattle.krb_crypto_block.specs.declared.aes.AesSize.{AesSize}
use Rattle.krb_crypto_block.specs.declared.aes.AesSize.TheVariants.{Aes128, Aes256}
use Rattle.krb_crypto_hash.specs.Pbkdf2.{IsPbkdf2, IsPbkdf2Over}
use Rattle.krb_crypto_message.specs.AesSha2.{sha2_hmac, sha2_hmac_octets, sha2_kdf, sha2_salt}
use Rattle.krb_crypto_message.specs.Derive.{aes_dk}
use Rattle.krb_crypto_message.specs.Sealing.{IsTheOne}
use Rattle.krb_crypto.specs.declared.cipher_suite.CipherSuite.{CipherSuite}
use Rattle.krb_crypto.specs.declared.cipher_suite.CipherSuite.TheVariants as cipher
use Rattle.krb_client.specs.declared.keys.limits.Limits.{Limits}
use Rattle.krb_client.specs.declared.keys.password.PasswordError.{PasswordError}
use Rattle.krb_client.specs.declared.keys.password.PasswordError.TheVariants as errors

-- ---- keys

-- PBKDF2 with so many iterations to a seed of the key's length, and DK of it with "kerberos" (RFC 3962, 4)
abbrev pub IsAesKey : ℕ → List ℕ → List ℕ → ℕ → List ℕ → Type 0
IsAesKey size password salt n key =
    (seed : List ℕ) × (length seed ≡ size) × IsPbkdf2 password salt n seed × (key ≡ aes_dk seed (codes "kerberos"))

-- PBKDF2 with so many iterations to a seed of the key's length, and the key that it gives for "kerberos" (RFC 8009, 4)
abbrev pub IsSha2Key : AesSize → List ℕ → List ℕ → ℕ → List ℕ → Type 0
IsSha2Key size password salt n key =
    (seed : List ℕ) × (length seed ≡ key_octets size)
    × IsPbkdf2Over (sha2_hmac size) (sha2_hmac_octets size) password (sha2_salt size salt) n seed
    × (key ≡ sha2_kdf size seed (codes "kerberos") (key_octets size))

-- by suites; the key of triple DES has no iterations, and is none of these
abbrev pub IsKeyOf : CipherSuite → List ℕ → List ℕ → ℕ → List ℕ → Type 0
IsKeyOf cipher.Aes128CtsHmacSha196 password salt n key = IsAesKey 16 password salt n key
IsKeyOf cipher.Aes256CtsHmacSha196 password salt n key = IsAesKey 32 password salt n key
IsKeyOf cipher.Des3CbcSha1Kd password salt n key = ⊥
IsKeyOf cipher.Aes128CtsHmacSha256128 password salt n key = IsSha2Key Aes128 password salt n key
IsKeyOf cipher.Aes256CtsHmacSha384192 password salt n key = IsSha2Key Aes256 password salt n key

-- ---- the number of iterations

-- it is 4096 by default (RFC 3962, 4), and 32768 (RFC 8009, 4)
abbrev pub default_iterations : CipherSuite → ℕ
default_iterations cipher.Aes128CtsHmacSha196 = 4096
default_iterations cipher.Aes256CtsHmacSha196 = 4096
default_iterations cipher.Des3CbcSha1Kd = 0
default_iterations cipher.Aes128CtsHmacSha256128 = 32768
default_iterations cipher.Aes256CtsHmacSha384192 = 32768

-- the number of four octets, the highest first, where 0 stands for 2^32 (RFC 3962, 4)
abbrev pub iterations_in : List ℕ → ℕ
iterations_in octets = if from_be_bytes w32 octets == 0 then 2 ^ 32 else from_be_bytes w32 octets

-- what the parameters, s2kparams, say
abbrev pub Iterates : CipherSuite → Option (List ℕ) → ℕ → Type 0
Iterates suite None n = n ≡ default_iterations suite
Iterates suite (Some octets) n = (length octets ≡ 4) × (n ≡ iterations_in octets)

-- they are not four octets
abbrev pub IsOtherLength : Option (List ℕ) → Type 0
IsOtherLength None = ⊥
IsOtherLength (Some octets) = length octets ≡ 4 → ⊥

-- ---- keys of passwords

-- The number of iterations is within the limits, and the key is the one of this password, salt and number.
pub record IsKeyOfPassword (suite : CipherSuite) (password salt : List ℕ) (parameters : Option (List ℕ)) (limits : Limits) (key : List ℕ) : Type 0 where
  pub iterations : ℕ
  pub is_number : Iterates suite parameters iterations
  pub least : limits.least ≤ iterations
  pub most : iterations ≤ limits.most
  pub is_key : IsTheOne (IsKeyOf suite password salt iterations) key

-- why there is none: triple DES; else the parameters; else the number is past a limit, and it is told
abbrev pub IsNoKeyOfPassword : CipherSuite → Option (List ℕ) → Limits → PasswordError → Type 0
IsNoKeyOfPassword suite parameters limits errors.Suite = suite ≡ cipher.Des3CbcSha1Kd
IsNoKeyOfPassword suite parameters limits errors.Parameters = (suite ≡ cipher.Des3CbcSha1Kd → ⊥) × IsOtherLength parameters
IsNoKeyOfPassword suite parameters limits (errors.Iterations n) =
    (suite ≡ cipher.Des3CbcSha1Kd → ⊥) × Iterates suite parameters n × ((n < limits.least) ⊎ (limits.most < n))
IsNoKeyOfPassword suite parameters limits errors.OutOfMemory = Unit {0}
