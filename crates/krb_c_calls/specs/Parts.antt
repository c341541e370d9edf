-- What is asked of sealed octets that are to hold a part of a message, and why they are refused (RFC 4120, 5; RFC 3961, 5.3).
use Rattle.std.specs.Prelude.{◌≡◌, ◌≢◌, ◌⊎◌, ℕ, ℤ, List, length}
use Rattle.krb_crypto_message.specs.Sealing.{HasNoPayload, IsGiven, Opens}
use Rattle.krb_crypto.specs.BySuite.{IsSealed, confounder_octets_of, error_of, key_octets_of, padding_octets_of}
use Rattle.krb_crypto.specs.Suites.{NoSuite}
use Rattle.krb_crypto.specs.declared.cipher_suite.CipherSuite.{CipherSuite}
use Rattle.krb_der_core.specs.declared.der.DerEncode.{Ghosts as EncodingOf}
use Rattle.krb_der_core.specs.declared.error.Asn1DerError.{Asn1DerError}
use Rattle.krb_der_core.specs.Reading.{Encodings}
use Rattle.krb_crypto.specs.Padded.{PaddedError, RejectsPadded}
use Rattle.krb_c_calls.specs.Calls.{IsEncryption, RefusesEncryption}
use Rattle.krb_c_calls.specs.Numbers.{etype_number}
use Rattle.krb_c_calls.specs.Statuses.{crypto_status, der_status}
use Rattle.krb_c_calls.specs.MessageRules.{IsEncoding, RefusesReading}

-- some confounder of the suite's length gives these octets for the payload, under this key and usage
abbrev pub IsGivenUnder : CipherSuite → List ℕ → ℤ → List ℕ → List ℕ → Type 0
IsGivenUnder suite key usage octets = IsGiven (IsSealed suite key usage) (confounder_octets_of suite) octets

-- the value's encoding is sealed to the octets, under a key of the suite's length, and that of no other value of the type is
pub record IsPart {A : Type 0} (t : EncodingOf A) (suite : CipherSuite) (key : List ℕ) (usage : ℤ) (octets : List ℕ) (v : A) : Type 0 where
  pub size : length key ≡ key_octets_of suite
  pub valid : t.is_value v
  pub given : IsGivenUnder suite key usage octets (t.enc v)
  pub only : (w : A) → t.is_value w → IsGivenUnder suite key usage octets (t.enc w) → w ≡ v

-- that of no value of the type is
abbrev pub HasNoPart : {A : Type 0} → EncodingOf A → CipherSuite → List ℕ → ℤ → List ℕ → Type 0
HasNoPart {A} t suite key usage octets = (v : A) → t.is_value v → IsGivenUnder suite key usage octets (t.enc v) → ⊥

-- What is opened, padded, is not one encoding and fewer zeros than the suite pads to: its first error, from the left.
pub record IsNotPart {A : Type 0} (t : EncodingOf A) (suite : CipherSuite) (key : List ℕ) (usage : ℤ) (octets : List ℕ) (why : Asn1DerError) : Type 0 where
  pub padded : List ℕ
  pub opens : Opens (padding_octets_of suite) (IsGivenUnder suite key usage octets) padded
  pub rejected : RejectsPadded (Encodings t.is_value t.enc) (padding_octets_of suite) padded why
  pub first_error : PaddedError (Encodings t.is_value t.enc) t.first t.error (padding_octets_of suite) padded why

-- Why no part is opened under a key of the suite's length: nothing is sealed to the octets, and the status is that of the suite's error; or
-- what is sealed to them is no encoding of the type, and it is that of the first error.
abbrev pub IsNotOpened : {A : Type 0} → EncodingOf A → CipherSuite → List ℕ → ℤ → List ℕ → ℕ → Type 0
IsNotOpened t suite key usage octets status =
    (HasNoPayload (IsSealed suite key usage) (confounder_octets_of suite) octets × (status ≡ crypto_status (error_of suite key octets)))
    ⊎ ((why : Asn1DerError) × IsNotPart t suite key usage octets why × (status ≡ der_status why))

-- The key has another length (5); else memory was wanting (2), or no value's encoding is sealed to the octets, and this is why.
abbrev pub RefusesPart : {A : Type 0} → EncodingOf A → CipherSuite → List ℕ → ℤ → List ℕ → ℕ → Type 0
RefusesPart t suite key usage octets status =
    ((length key ≢ key_octets_of suite) × (status ≡ 5))
    ⊎ ((length key ≡ key_octets_of suite) × (status ≡ 2))
    ⊎ ((length key ≡ key_octets_of suite) × HasNoPart t suite key usage octets × IsNotOpened t suite key usage octets status)

-- ---- by the number of the encryption type

-- the answer is the encoding of the part that is sealed to the octets
abbrev pub IsOpening : {A : Type 0} → EncodingOf A → ℤ → List ℕ → ℤ → List ℕ → List ℕ → Type 0
IsOpening {A} t number key usage octets answer =
    (suite : CipherSuite) × (etype_number suite ≡ number) × (v : A) × IsPart t suite key usage octets v × (answer ≡ t.enc v)

-- no suite has the number (3), or the suite of this number opens no part
abbrev pub RefusesOpening : {A : Type 0} → EncodingOf A → ℤ → List ℕ → ℤ → List ℕ → ℕ → Type 0
RefusesOpening t number key usage octets status =
    (NoSuite etype_number number × (status ≡ 3))
    ⊎ ((suite : CipherSuite) × (etype_number suite ≡ number) × RefusesPart t suite key usage octets status)

-- the part is an encoding, and the answer is what it is sealed to
abbrev pub IsSealing : {A : Type 0} → EncodingOf A → ℤ → List ℕ → ℤ → List ℕ → List ℕ → List ℕ → Type 0
IsSealing t number key usage confounder part answer = IsEncoding t part × IsEncryption number key usage confounder part answer

-- it is none; or it is one, and is not encrypted
abbrev pub RefusesSealing : {A : Type 0} → EncodingOf A → ℤ → List ℕ → List ℕ → List ℕ → ℕ → Type 0
RefusesSealing t number key confounder part status =
    RefusesReading t part status ⊎ (IsEncoding t part × RefusesEncryption number key confounder status)
