-- The steps of the calls under the suites of RFC 8009.
use Rattle.std.proofs.Common.{◌≡◌, ℕ, ◌≤◌, List, ◌++◌, length, codes, replicate, refl, sym, ap, ◌∙◌, arith}
use Rattle.std.proofs.lemmas.List.{length-take-le}
use Rattle.krb_crypto_hash.proofs.HmacSteps.{hmac_256-size, hmac_384-size}
use Rattle.krb_crypto_block.specs.Aes.{aes_block}
use Rattle.krb_crypto_block.specs.Modes.{Cts}
use Rattle.krb_crypto_block.specs.Size.{key_octets}
use Rattle.krb_crypto_block.specs.declared.aes.AesSize.{AesSize}
use Rattle.krb_crypto_block.specs.declared.aes.AesSize.TheVariants.{Aes256, Aes128}
use Rattle.krb_crypto_message.specs.AesSha2.{sha2_hmac, sha2_hmac_octets, sha2_checksum_octets, sha2_mac, sha2_kdf, sha2_salt, sha2_seal_mac, IsSha2PasswordKey}
use Rattle.krb_crypto_message.specs.Sealing.{IsTheOne}
use Rattle.krb_crypto_message.proofs.Deriving.{pbkdf2_one}
use Rattle.krb_crypto_message.proofs.Messages.{cts_scheme}
use Rattle.krb_crypto_message.proofs.Opening.{IsScheme}

-- ---- keys

-- the key for a label is that for what the label is
pub derived_for : (size : AesSize) (key label constant k : List ℕ) (octets n : ℕ) → k ≡ sha2_kdf size key label octets → label ≡ constant → octets ≡ n → k ≡ sha2_kdf size key constant n
derived_for size key label constant k octets n e el en = e ∙ ap (λ (l : List ℕ). sha2_kdf size key l octets) el ∙ ap (sha2_kdf size key constant) en

-- a password and a salt give one key
pub sha2_password_one : (size : AesSize) (password salt key : List ℕ) → IsSha2PasswordKey size password salt key → IsTheOne (IsSha2PasswordKey size password salt) key
sha2_password_one size password salt key made = record {
  holds = made;
  only = λ other is.
      is.3 ∙ ap (λ (s : List ℕ). sha2_kdf size s (codes "kerberos") (key_octets size))
      (pbkdf2_one (sha2_hmac size) (sha2_hmac_octets size) (key_octets size) password (sha2_salt size salt) 32768 is.0 made.0 is.1 made.1 is.2 made.2) ∙ sym made.3;
}

-- ---- checksums

sha2_hmac_size : (size : AesSize) (key m : List ℕ) → length (sha2_hmac size key m) ≡ sha2_hmac_octets size
sha2_hmac_size Aes128 key m = hmac_256-size key m
sha2_hmac_size Aes256 key m = hmac_384-size key m

enough : (size : AesSize) → sha2_checksum_octets size ≤ sha2_hmac_octets size
enough Aes128 = omega arith
enough Aes256 = omega arith

sha2_mac_size : (size : AesSize) (key m : List ℕ) → length (sha2_mac size key m) ≡ sha2_checksum_octets size
sha2_mac_size size key m = length-take-le (sha2_checksum_octets size) (sha2_hmac size key m) (omega (arith, enough size, sha2_hmac_size size key m))

-- ---- messages

pub sha2_scheme : (size : AesSize) (ke ki : List ℕ)
    → IsScheme 1 16 (sha2_checksum_octets size) (Cts (aes_block ke)) (λ p c. sha2_seal_mac size ki c) (λ ki p c. sha2_seal_mac size ki c) ki (λ n. 16 ≤ n)
sha2_scheme size ke ki =
    cts_scheme (sha2_checksum_octets size) ke ki (λ p c. sha2_seal_mac size ki c) (λ ki p c. sha2_seal_mac size ki c)
    (λ p c. sha2_mac_size size ki (replicate 16 0 ++ c)) (λ p c. refl)
