-- Why no part is opened, from what `open_part` says of its error.
use Rattle.std.proofs.Common.{◌≡◌, ℕ, ℤ, List, length, refl, inl, inr}
use Rattle.krb_crypto_hash.specs.CryptoError.{IsMemoryOr, IsKeyLengthError}
use Rattle.krb_crypto_hash.specs.declared.error.KerberosCryptoError.{KerberosCryptoError}
use Rattle.krb_crypto_message.specs.Sealing.{HasNoPayload}
use Rattle.krb_crypto.specs.BySuite.{IsSealed, confounder_octets_of, error_of, key_octets_of, padding_octets_of}
use Rattle.krb_crypto.specs.declared.cipher_suite.CipherSuite.{CipherSuite}
use Rattle.krb_der_core.specs.declared.der.DerEncode.{Ghosts as EncodingOf}
use Rattle.krb_der_core.specs.declared.error.Asn1DerError.{Asn1DerError}
use Rattle.krb_der_core.specs.declared.error.Asn1DerError.TheVariants as der
use Rattle.krb_der_core.specs.Reading.{Encodings}
use Rattle.krb_crypto.specs.Padded.{HasFirstError}
use Rattle.krb_crypto.specs.declared.seal.error.PartError.TheVariants as half
use Rattle.krb_client.specs.Opened.{IsClosed, IsGivenUnder, IsNotPart}

module _ {A : Type 0} (t : EncodingOf A) (suite : CipherSuite) (key : List ℕ) (usage : ℤ) (octets : List ℕ) where
  pub key_refused : (e : KerberosCryptoError) → IsKeyLengthError (key_octets_of suite) key e → IsClosed t suite key usage octets (half.Crypto e)
  key_refused e is = inl is

  -- the suite's error, under a key of its length
  pub seal_refused : (e : KerberosCryptoError) → length key ≡ key_octets_of suite
      → IsMemoryOr e (HasNoPayload (IsSealed suite key usage) (confounder_octets_of suite) octets) → IsMemoryOr e (e ≡ error_of suite key octets)
      → IsClosed t suite key usage octets (half.Crypto e)
  seal_refused e right (inl memory) exact = inr (right, inl memory)
  seal_refused e right (inr none) (inl memory) = inr (right, inl memory)
  seal_refused e right (inr none) (inr is) = inr (right, inr (none, is))

  -- the error of what is opened
  part_is_none : (e : Asn1DerError) → length key ≡ key_octets_of suite → (e ≡ der.OutOfMemory → ⊥)
      → ((v : A) → t.is_value v → IsGivenUnder suite key usage octets (t.enc v) → e ≡ der.OutOfMemory)
      → HasFirstError (Encodings t.is_value t.enc) t.first t.error (padding_octets_of suite) (IsGivenUnder suite key usage octets) e
      → IsClosed t suite key usage octets (half.Der e)
  part_is_none e right other only (padded, opens, rejected, inl memory) = absurd (other memory)
  part_is_none e right other only (padded, opens, rejected, inr first) =
      let why : IsNotPart t suite key usage octets e =
      record { none = λ v valid given. other (only v valid given); padded = padded; opens = opens; rejected = rejected; first_error = first } in
      (right, inr why)

  pub part_refused : (e : Asn1DerError) → length key ≡ key_octets_of suite
      → ((v : A) → t.is_value v → IsGivenUnder suite key usage octets (t.enc v) → e ≡ der.OutOfMemory)
      → HasFirstError (Encodings t.is_value t.enc) t.first t.error (padding_octets_of suite) (IsGivenUnder suite key usage octets) e
      → IsClosed t suite key usage octets (half.Der e)
  part_refused der.OutOfMemory right only first = (right, inl refl)
  part_refused e right only first = part_is_none e right (λ same. (cc)) only first
