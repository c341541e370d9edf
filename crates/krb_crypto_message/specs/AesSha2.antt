-- AES with SHA-2 (RFC 8009), by the size of a key: aes128-cts-hmac-sha256-128 and aes256-cts-hmac-sha384-192.
use Rattle.std.specs.Prelude.{◌≡◌, ℕ, ℤ, ◌+◌, ◌-◌, ◌*◌, List, ◌∷◌, ◌++◌, length, take, replicate, codes}
use Rattle.krb_crypto_hash.specs.Hmac.{hmac_256, hmac_384}
use Rattle.krb_crypto_hash.specs.Kdf.{kdf_over}
use Rattle.krb_crypto_hash.specs.Pbkdf2.{IsPbkdf2Over}
use Rattle.krb_crypto_hash.specs.declared.error.KerberosCryptoError.{KerberosCryptoError}
use Rattle.krb_crypto_block.specs.Aes.{aes_block}
use Rattle.krb_crypto_block.specs.Modes.{Cts}
use Rattle.krb_crypto_block.specs.Size.{key_octets}
use Rattle.krb_crypto_block.specs.declared.aes.AesSize.{AesSize}
use Rattle.krb_crypto_block.specs.declared.aes.AesSize.TheVariants.{Aes256, Aes128}
use Rattle.krb_crypto_message.specs.MessageSteps.{end_of}
use Rattle.krb_crypto_message.specs.Sealed.{IsSealedBy, cts_error}
use Rattle.krb_crypto_message.specs.WellKnown.{usage_constant}

-- ---- the suites (RFC 8009, 5)

-- the HMAC, with SHA-256 and with SHA-384
abbrev pub sha2_hmac : AesSize → List ℕ → List ℕ → List ℕ
sha2_hmac Aes128 key message = hmac_256 key message
sha2_hmac Aes256 key message = hmac_384 key message

-- its octets
abbrev pub sha2_hmac_octets : AesSize → ℕ
sha2_hmac_octets Aes128 = 32
sha2_hmac_octets Aes256 = 48

-- those of a checksum, and of the keys Ki and Kc
abbrev pub sha2_checksum_octets : AesSize → ℕ
sha2_checksum_octets Aes128 = 16
sha2_checksum_octets Aes256 = 24

-- the HMAC, cut to a checksum
abbrev pub sha2_mac : AesSize → List ℕ → List ℕ → List ℕ
sha2_mac size key message = take (sha2_checksum_octets size) (sha2_hmac size key message)

-- ---- keys

-- the key of so many octets that a key gives for a label (RFC 8009, 3)
abbrev pub sha2_kdf : AesSize → List ℕ → List ℕ → ℕ → List ℕ
sha2_kdf size key label octets = kdf_over (sha2_hmac size) key label (8 * octets)

-- Ke, Ki and Kc (RFC 8009, 5)
abbrev pub sha2_ke : AesSize → List ℕ → ℤ → List ℕ
sha2_ke size key usage = sha2_kdf size key (usage_constant usage 0xaa) (key_octets size)

abbrev pub sha2_ki : AesSize → List ℕ → ℤ → List ℕ
sha2_ki size key usage = sha2_kdf size key (usage_constant usage 0x55) (sha2_checksum_octets size)

abbrev pub sha2_kc : AesSize → List ℕ → ℤ → List ℕ
sha2_kc size key usage = sha2_kdf size key (usage_constant usage 0x99) (sha2_checksum_octets size)

-- the name of the suite, a zero octet and the salt (RFC 8009, 4, "saltp")
abbrev pub sha2_salt : AesSize → List ℕ → List ℕ
sha2_salt Aes128 salt = codes "aes128-cts-hmac-sha256-128" ++ (0 ∷ salt)
sha2_salt Aes256 salt = codes "aes256-cts-hmac-sha384-192" ++ (0 ∷ salt)

-- string-to-key: PBKDF2 with 32768 rounds to a seed of the key's length, and the key that it gives for "kerberos" (RFC 8009,
-- 4)
abbrev pub IsSha2PasswordKey : AesSize → List ℕ → List ℕ → List ℕ → Type 0
IsSha2PasswordKey size password salt key =
    (seed : List ℕ) × (length seed ≡ key_octets size) × IsPbkdf2Over (sha2_hmac size) (sha2_hmac_octets size) password (sha2_salt size salt) 32768 seed
    × (key ≡ sha2_kdf size seed (codes "kerberos") (key_octets size))

-- ---- messages (RFC 8009, 5)

-- what the key's Ke encrypts
abbrev pub Sha2Cts : AesSize → List ℕ → ℤ → List ℕ → List ℕ → Type 0
Sha2Cts size key usage p c = Cts (aes_block (sha2_ke size key usage)) p c

-- the checksum of the encrypted octets, with a cipher state of 16 zero octets before them
abbrev pub sha2_seal_mac : AesSize → List ℕ → List ℕ → List ℕ
sha2_seal_mac size ki cipher = sha2_mac size ki (replicate 16 0 ++ cipher)

-- the octets end in the checksum of those before it (RFC 8009, 5)
abbrev pub EndsInSealMac : AesSize → List ℕ → List ℕ → Type 0
EndsInSealMac size ki octets =
    end_of (sha2_checksum_octets size) octets ≡ sha2_seal_mac size ki (take (length octets - sha2_checksum_octets size) octets)

-- the relation of the suites, which pad nothing, and whose checksum is that of what confounder and payload are encrypted to
abbrev pub IsSealedSha2 : AesSize → List ℕ → ℤ → List ℕ → List ℕ → List ℕ → Type 0
IsSealedSha2 size key usage confounder payload octets =
    IsSealedBy 1 (Sha2Cts size key usage) (λ padded cipher. sha2_seal_mac size (sha2_ki size key usage) cipher) confounder payload octets

-- the keyed checksum of a message that stands alone
abbrev pub sha2_sum : AesSize → List ℕ → ℤ → List ℕ → List ℕ
sha2_sum size key usage message = sha2_mac size (sha2_kc size key usage) message

-- why octets are not opened: their number first, then the key's, then the checksum
abbrev pub sha2_error : AesSize → List ℕ → List ℕ → KerberosCryptoError
sha2_error size key octets = cts_error (16 + sha2_checksum_octets size) (key_octets size) key octets
