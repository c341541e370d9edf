-- Messages under the keys that are derived from a key for a usage (RFC 3961, 5.3). Under those of a key and a usage they are what `Sealed`
-- and `AesSha2` say of that key and usage.
use Rattle.std.specs.Prelude.{ℕ, ◌-◌, ◌%◌, ◌==◌, List, length, nat_lt, if◌then◌else◌}
use Rattle.krb_crypto_hash.specs.Hmac.{hmac}
use Rattle.krb_crypto_hash.specs.declared.error.KerberosCryptoError.{KerberosCryptoError}
use Rattle.krb_crypto_hash.specs.declared.error.KerberosCryptoError.TheVariants.{CipherLength, CipherUnpad, IntegrityCheck}
use Rattle.krb_crypto_block.specs.Aes.{aes_block}
use Rattle.krb_crypto_block.specs.Des.{ede3}
use Rattle.krb_crypto_block.specs.Modes.{Cts, IsCbc}
use Rattle.krb_crypto_block.specs.declared.aes.AesSize.{AesSize}
use Rattle.krb_crypto_message.specs.AesSha2.{sha2_seal_mac}
use Rattle.krb_crypto_message.specs.Sealed.{IsSealedBy, mac_96}

-- Ke and Ki
pub record DerivedKeys : Type 0 where
  pub ke : List ℕ
  pub ki : List ℕ

-- what they seal confounder and payload to, under AES with SHA-1 (RFC 3962, 6)
abbrev pub IsSealedUnderAes : DerivedKeys → List ℕ → List ℕ → List ℕ → Type 0
IsSealedUnderAes keys confounder payload octets = IsSealedBy 1 (Cts (aes_block keys.ke)) (λ padded cipher. mac_96 keys.ki padded) confounder payload octets

-- under AES with SHA-2, by the size of a key (RFC 8009, 5)
abbrev pub IsSealedUnderSha2 : AesSize → DerivedKeys → List ℕ → List ℕ → List ℕ → Type 0
IsSealedUnderSha2 size keys confounder payload octets = IsSealedBy 1 (Cts (aes_block keys.ke)) (λ padded cipher. sha2_seal_mac size keys.ki cipher) confounder payload octets

-- under triple DES (RFC 3961, 6.3)
abbrev pub IsSealedUnderDes3 : DerivedKeys → List ℕ → List ℕ → List ℕ → Type 0
IsSealedUnderDes3 keys confounder payload octets = IsSealedBy 8 (IsCbc 8 (ede3 keys.ke)) (λ padded cipher. hmac keys.ki padded) confounder payload octets

-- why octets, of which there should be so many at least, are not opened: their number first, then the checksum
abbrev pub unopened_error : ℕ → List ℕ → KerberosCryptoError
unopened_error shortest octets = if nat_lt (length octets) shortest then CipherLength (length octets) shortest else IntegrityCheck

-- the same under triple DES: their number, then whole blocks, then the checksum
abbrev pub unopened_des3_error : List ℕ → KerberosCryptoError
unopened_des3_error octets =
    if nat_lt (length octets) 28 then CipherLength (length octets) 28
    else if (length octets - 20) % 8 == 0 then IntegrityCheck
    else CipherUnpad
