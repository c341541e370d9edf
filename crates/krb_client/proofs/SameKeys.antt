-- A password and a salt give one key.
use Rattle.std.proofs.Common.{◌≡◌, ℕ, List, codes, sym, ap, ◌∙◌}
use Rattle.krb_crypto_block.specs.Size.{key_octets}
use Rattle.krb_crypto_block.specs.declared.aes.AesSize.{AesSize}
use Rattle.krb_crypto_block.specs.declared.aes.AesSize.TheVariants.{Aes128, Aes256}
use Rattle.krb_crypto_hash.specs.Hmac.{hmac}
use Rattle.krb_crypto_message.specs.AesSha2.{sha2_hmac, sha2_hmac_octets, sha2_kdf, sha2_salt}
use Rattle.krb_crypto_message.specs.Derive.{aes_dk}
use Rattle.krb_crypto_message.specs.Sealing.{IsTheOne}
use Rattle.krb_crypto_message.proofs.Deriving.{pbkdf2_one}
use Rattle.krb_crypto.specs.declared.cipher_suite.CipherSuite.{CipherSuite}
use Rattle.krb_crypto.specs.declared.cipher_suite.CipherSuite.TheVariants as cipher
use Rattle.krb_client.specs.PasswordKeys.{IsAesKey, IsKeyOf, IsSha2Key}

aes_same : (size : ℕ) (password salt : List ℕ) (n : ℕ) (key other : List ℕ) → IsAesKey size password salt n key → IsAesKey size password salt n other → other ≡ key
aes_same size password salt n key other made is =
    let seeds : is.0 ≡ made.0 = pbkdf2_one hmac 20 size password salt n is.0 made.0 is.1 made.1 is.2 made.2 in
    is.3 ∙ ap (λ (s : List ℕ). aes_dk s (codes "kerberos")) seeds ∙ sym made.3

sha2_same : (size : AesSize) (password salt : List ℕ) (n : ℕ) (key other : List ℕ) → IsSha2Key size password salt n key → IsSha2Key size password salt n other → other ≡ key
sha2_same size password salt n key other made is =
    is.3 ∙ ap (λ (s : List ℕ). sha2_kdf size s (codes "kerberos") (key_octets size))
    (pbkdf2_one (sha2_hmac size) (sha2_hmac_octets size) (key_octets size) password (sha2_salt size salt) n is.0 made.0 is.1 made.1 is.2 made.2) ∙ sym made.3

same : (suite : CipherSuite) (password salt : List ℕ) (n : ℕ) (key other : List ℕ) → IsKeyOf suite password salt n key → IsKeyOf suite password salt n other → other ≡ key
same cipher.Aes128CtsHmacSha196 password salt n key other made is = aes_same 16 password salt n key other made is
same cipher.Aes256CtsHmacSha196 password salt n key other made is = aes_same 32 password salt n key other made is
same cipher.Des3CbcSha1Kd password salt n key other made is = absurd made
same cipher.Aes128CtsHmacSha256128 password salt n key other made is = sha2_same Aes128 password salt n key other made is
same cipher.Aes256CtsHmacSha384192 password salt n key other made is = sha2_same Aes256 password salt n key other made is

pub one_key : (suite : CipherSuite) (password salt : List ℕ) (n : ℕ) (key : List ℕ) → IsKeyOf suite password salt n key → IsTheOne (IsKeyOf suite password salt n) key
one_key suite password salt n key made = record { holds = made; only = λ other is. same suite password salt n key other made is }
