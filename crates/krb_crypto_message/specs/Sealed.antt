-- What the suites write (RFC 3961, 5.3).
use Rattle.std.specs.Prelude.{◌≡◌, ℕ, ℤ, ◌-◌, ◌%◌, List, ◌++◌, length, nat_lt, ◌==◌, take, if◌then◌else◌}
use Rattle.krb_crypto_block.specs.Aes.{aes_block}
use Rattle.krb_crypto_block.specs.Des.{ede3}
use Rattle.krb_crypto_hash.specs.Hmac.{hmac}
use Rattle.krb_crypto_block.specs.Modes.{Cts, IsCbc, IsPadding, IsOctets}
use Rattle.krb_crypto_hash.specs.declared.error.KerberosCryptoError.{KerberosCryptoError}
use Rattle.krb_crypto_hash.specs.declared.error.KerberosCryptoError.TheVariants.{CipherLength, CipherUnpad, IntegrityCheck, KeyLength}
use Rattle.krb_crypto_message.specs.Derive.{aes_dk, des3_dk}
use Rattle.krb_crypto_message.specs.WellKnown.{usage_constant}

-- what confounder and payload, with the fewest zeros to a multiple of padding octets, are encrypted to, and after it the
-- checksum, mac, of the padded octets and of what they are encrypted to. In the suites of RFC 3962 and of triple DES it is
-- of the padded octets alone.
pub record IsSealedBy (padding : ℕ) (encrypts : List ℕ → List ℕ → Type 0) (mac : List ℕ → List ℕ → List ℕ) (confounder payload octets : List ℕ) : Type 0 where
  pub of_octets : IsOctets (confounder ++ payload)
  pub padded : List ℕ
  pub padding_is : IsPadding padding (confounder ++ payload) padded
  pub cipher : List ℕ
  pub encrypted_octets : encrypts padded cipher
  pub concatenated : octets ≡ cipher ++ mac padded cipher

-- ---- AES (RFC 3962, 6)

-- the keys Ke, Ki and Kc (RFC 3961, 5.3)
abbrev pub aes_ke : List ℕ → ℤ → List ℕ
aes_ke key usage = aes_dk key (usage_constant usage 0xaa)

abbrev pub aes_ki : List ℕ → ℤ → List ℕ
aes_ki key usage = aes_dk key (usage_constant usage 0x55)

abbrev pub aes_kc : List ℕ → ℤ → List ℕ
aes_kc key usage = aes_dk key (usage_constant usage 0x99)

-- the HMAC under the key, cut to 12 octets
abbrev pub mac_96 : List ℕ → List ℕ → List ℕ
mac_96 key message = take 12 (hmac key message)

-- what the key's Ke encrypts
abbrev pub AesCts : List ℕ → ℤ → List ℕ → List ℕ → Type 0
AesCts key usage p c = Cts (aes_block (aes_ke key usage)) p c

-- the relation of the AES suites, which pad nothing
abbrev pub IsSealedAes : List ℕ → ℤ → List ℕ → List ℕ → List ℕ → Type 0
IsSealedAes key usage confounder payload octets = IsSealedBy 1 (AesCts key usage) (λ padded cipher. mac_96 (aes_ki key usage) padded) confounder payload octets

-- the keyed checksum of a message that stands alone
abbrev pub aes_sum : List ℕ → ℤ → List ℕ → List ℕ
aes_sum key usage message = mac_96 (aes_kc key usage) message

-- why octets, of which there should be so many at least, are not opened under a key that should have size octets: their number
-- first, then the key's, then the checksum
abbrev pub cts_error : ℕ → ℕ → List ℕ → List ℕ → KerberosCryptoError
cts_error shortest size key octets =
    if nat_lt (length octets) shortest then CipherLength (length octets) shortest
    else if length key == size then IntegrityCheck
    else KeyLength (length key) size

-- a confounder of 16 octets and a checksum of 12 are the shortest
abbrev pub aes_error : ℕ → List ℕ → List ℕ → KerberosCryptoError
aes_error size key octets = cts_error 28 size key octets

-- ---- triple DES (RFC 3961, 6.3)

abbrev pub des3_ke : List ℕ → ℤ → List ℕ
des3_ke key usage = des3_dk key (usage_constant usage 0xaa)

abbrev pub des3_ki : List ℕ → ℤ → List ℕ
des3_ki key usage = des3_dk key (usage_constant usage 0x55)

abbrev pub des3_kc : List ℕ → ℤ → List ℕ
des3_kc key usage = des3_dk key (usage_constant usage 0x99)

-- what the key's Ke encrypts
abbrev pub Des3Cbc : List ℕ → ℤ → List ℕ → List ℕ → Type 0
Des3Cbc key usage p c = IsCbc 8 (ede3 (des3_ke key usage)) p c

-- the relation of the suite of triple DES, which pads to blocks of 8 octets and has a whole HMAC
abbrev pub IsSealedDes3 : List ℕ → ℤ → List ℕ → List ℕ → List ℕ → Type 0
IsSealedDes3 key usage confounder payload octets = IsSealedBy 8 (Des3Cbc key usage) (λ padded cipher. hmac (des3_ki key usage) padded) confounder payload octets

-- the keyed checksum of a message that stands alone
abbrev pub des3_sum : List ℕ → ℤ → List ℕ → List ℕ
des3_sum key usage message = hmac (des3_kc key usage) message

-- why octets are not opened: the key's length first, then their number, then whole blocks, then the checksum
abbrev pub des3_error : List ℕ → List ℕ → KerberosCryptoError
des3_error key octets =
    if length key == 24 then (
    if nat_lt (length octets) 28 then CipherLength (length octets) 28
    else if (length octets - 20) % 8 == 0 then IntegrityCheck
    else CipherUnpad
    ) else KeyLength (length key) 24

-- why a password and a salt give no key: there is no octet of them
abbrev pub IsNoDes3Password : List ℕ → List ℕ → KerberosCryptoError → Type 0
IsNoDes3Password password salt e = (length (password ++ salt) ≡ 0) × (e ≡ KeyLength 0 1)
