-- Parts of messages that are sealed (RFC 3961, 5.3; RFC 4120, 5.2.9).
use Rattle.std.specs.Prelude.{◌≡◌, ◌⊎◌, ℕ, ℤ, List, length}
use Rattle.krb_crypto_hash.specs.CryptoError.{IsKeyLengthError}
use Rattle.krb_crypto_hash.specs.declared.error.KerberosCryptoError.TheVariants as crypto
use Rattle.krb_crypto_message.specs.Sealing.{HasNoPayload, IsGiven, Opens}
use Rattle.krb_crypto.specs.BySuite.{IsSealed, confounder_octets_of, error_of, key_octets_of, padding_octets_of}
use Rattle.krb_crypto.specs.declared.cipher_suite.CipherSuite.{CipherSuite}
use Rattle.krb_der_core.specs.declared.der.DerEncode.{Ghosts as EncodingOf}
use Rattle.krb_der_core.specs.declared.error.Asn1DerError.{Asn1DerError}
use Rattle.krb_der_core.specs.declared.error.Asn1DerError.TheVariants as der
use Rattle.krb_der_core.specs.Reading.{Encodings}
use Rattle.krb_crypto.specs.Padded.{PaddedError, RejectsPadded}
use Rattle.krb_crypto.specs.declared.seal.error.PartError.{PartError}
use Rattle.krb_crypto.specs.declared.seal.error.PartError.TheVariants as half
use Rattle.krb_client_rules.specs.declared.key.Key.{Key}
use Rattle.krb_client.specs.declared.replies.error.ReplyError.{ReplyError}
use Rattle.krb_client.specs.declared.replies.error.ReplyError.TheVariants as errors

-- some confounder of the suite's length gives these octets for the payload, under this key and usage
abbrev pub IsGivenUnder : CipherSuite → List ℕ → ℤ → List ℕ → List ℕ → Type 0
IsGivenUnder suite key usage octets = IsGiven (IsSealed suite key usage) (confounder_octets_of suite) octets

-- the value's encoding is sealed to the octets, under a key of the suite's length, and that of no other value of the type is
pub record IsPart {A : Type 0} (t : EncodingOf A) (suite : CipherSuite) (key : List ℕ) (usage : ℤ) (octets : List ℕ) (v : A) : Type 0 where
  pub size : length key ≡ key_octets_of suite
  pub valid : t.is_value v
  pub given : IsGivenUnder suite key usage octets (t.enc v)
  pub only : (w : A) → t.is_value w → IsGivenUnder suite key usage octets (t.enc w) → w ≡ v

-- What is opened, padded, is not one encoding and fewer zeros than the suite pads to: its first error, from the left.
pub record IsNotPart {A : Type 0} (t : EncodingOf A) (suite : CipherSuite) (key : List ℕ) (usage : ℤ) (octets : List ℕ) (why : Asn1DerError) : Type 0 where
  pub none : (v : A) → t.is_value v → IsGivenUnder suite key usage octets (t.enc v) → ⊥
  pub padded : List ℕ
  pub opens : Opens (padding_octets_of suite) (IsGivenUnder suite key usage octets) padded
  pub rejected : RejectsPadded (Encodings t.is_value t.enc) (padding_octets_of suite) padded why
  pub first_error : PaddedError (Encodings t.is_value t.enc) t.first t.error (padding_octets_of suite) padded why

-- Why no part is opened: the key has another length; else memory was wanting, or nothing is sealed to the octets, or what is sealed to them is no
-- encoding of the type.
abbrev pub IsClosed : {A : Type 0} → EncodingOf A → CipherSuite → List ℕ → ℤ → List ℕ → PartError → Type 0
IsClosed t suite key usage octets (half.Crypto e) =
    IsKeyLengthError (key_octets_of suite) key e
    ⊎ ((length key ≡ key_octets_of suite) × ((e ≡ crypto.OutOfMemory)
    ⊎ (HasNoPayload (IsSealed suite key usage) (confounder_octets_of suite) octets × (e ≡ error_of suite key octets))))
IsClosed t suite key usage octets (half.Der e) =
    (length key ≡ key_octets_of suite) × ((e ≡ der.OutOfMemory) ⊎ IsNotPart t suite key usage octets e)

-- the same, of a reply's part
abbrev pub IsOpened : {A : Type 0} → EncodingOf A → Key → ℤ → List ℕ → A → Type 0
IsOpened t key usage octets v = IsPart t key.suite key.octets.items usage octets v

abbrev pub IsNotOpened : {A : Type 0} → EncodingOf A → Key → ℤ → List ℕ → ReplyError → Type 0
IsNotOpened t key usage octets (errors.Opening why) = IsClosed t key.suite key.octets.items usage octets why
IsNotOpened t key usage octets other = ⊥
