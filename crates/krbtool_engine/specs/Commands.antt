-- What each command returns for an input, and its error. The values that are read and written are those of which
-- `is_value` holds, and `enc` gives their encodings.
use Rattle.std.specs.Prelude.{◌≡◌, ◌≢◌, ◌⊎◌, ℕ, ℤ, Bool, List, length, Err}
use Rattle.krb_crypto_hash.specs.declared.error.KerberosCryptoError.{KerberosCryptoError}
use Rattle.krb_crypto_hash.specs.declared.error.KerberosCryptoError.TheVariants.{KeyLength}
use Rattle.krb_der_core.specs.declared.error.Asn1DerError.{Asn1DerError}
use Rattle.krb_der_core.specs.Errors.{ValueError}
use Rattle.krb_der_core.specs.Reading.{Encodings}
use Rattle.krb_der.specs.Whole.{ReadsValue, ReportsCut, RejectsMore, NoDevice}
use Rattle.krb_crypto_message.specs.Sealing.{IsGiven, IsOfNone, Opens}
use Rattle.krb_crypto.specs.Padded.{PaddedError, RejectsPadded}
use Rattle.krb_crypto.specs.BySuite.{IsSealed, key_octets_of, confounder_octets_of, padding_octets_of, error_of}
use Rattle.krb_crypto.specs.declared.cipher_suite.CipherSuite.{CipherSuite}
use Rattle.krbtool_engine.specs.declared.command.Command.{Command}
use Rattle.krbtool_engine.specs.declared.command.Command.TheVariants.{Check, Seal, Open}
use Rattle.krbtool_engine.specs.declared.failure.Failure.{Failure}
use Rattle.krbtool_engine.specs.declared.failure.Failure.TheVariants.{Memory, Der, Crypto}

module _ {V : Type 0} (is_value : V → Type 0) (enc : V → List ℕ) where
  -- the input is the encoding of a value, and the result is that encoding
  abbrev pub IsChecked : List ℕ → List ℕ → Type 0
  IsChecked input answer = (v : V) × is_value v × (input ≡ enc v) × (answer ≡ input)

  -- the input is the encoding of a value, and the result is what it is sealed to
  abbrev pub IsSealing : CipherSuite → List ℕ → ℤ → List ℕ → List ℕ → List ℕ → Type 0
  IsSealing suite key usage confounder input answer =
      (v : V) × is_value v × (input ≡ enc v) × (length key ≡ key_octets_of suite) × IsSealed suite key usage confounder (enc v) answer

  -- the result is the encoding of a value, which some confounder seals to the input
  abbrev pub IsOpening : CipherSuite → List ℕ → ℤ → List ℕ → List ℕ → Type 0
  IsOpening suite key usage input answer =
      (v : V) × is_value v × (answer ≡ enc v) × (length key ≡ key_octets_of suite) × IsGiven (IsSealed suite key usage) (confounder_octets_of suite) input (enc v)

  -- what the command returns for the input
  abbrev pub IsAnswer : Command → List ℕ → List ℕ → Type 0
  IsAnswer Check input answer = IsChecked input answer
  IsAnswer (Seal key confounder) input answer = IsSealing key.suite key.octets.items key.usage confounder.items input answer
  IsAnswer (Open key) input answer = IsOpening key.suite key.octets.items key.usage input answer

module _ {V : Type 0} (is_value : V → Type 0) (enc : V → List ℕ) (first : ℕ → Bool) (error : ℕ → List ℕ → Asn1DerError → Type 0) where
  -- the error of octets that should be the encoding of a value: an allocation failure, or their first error
  abbrev pub IsReadError : List ℕ → Failure → Type 0
  IsReadError octets e = (e ≡ Memory) ⊎ ((why : Asn1DerError) × (e ≡ Der why)
      × ReadsValue is_value enc octets (Err why) × ReportsCut is_value enc octets (Err why) × RejectsMore is_value enc octets (Err why) × NoDevice why
      × ValueError is_value enc first error octets why)

  -- or they are, and the key has not size octets: the value is read first
  abbrev pub IsSealError : ℕ → List ℕ → List ℕ → Failure → Type 0
  IsSealError size key octets e = IsReadError octets e ⊎ ((length key ≢ size) × (e ≡ Crypto (KeyLength (length key) size)) × (v : V) × is_value v × (octets ≡ enc v))

  -- The error of octets, which are given for these payloads, that are not opened: an allocation failure; the cipher's error, under
  -- a right key only where they are given for no payload; or the first error of a payload that is opened and is no padded
  -- encoding.
  abbrev pub IsOpenError : ℕ → (List ℕ → Type 0) → Type 0 → (KerberosCryptoError → Type 0) → Failure → Type 0
  IsOpenError padding given right unopened e =
      (e ≡ Memory)
      ⊎ ((why : KerberosCryptoError) × (e ≡ Crypto why) × unopened why × (right → IsOfNone given))
      ⊎ ((why : Asn1DerError) × (e ≡ Der why) × (padded : List ℕ) × Opens padding given padded
      × RejectsPadded (Encodings is_value enc) padding padded why × PaddedError (Encodings is_value enc) first error padding padded why)

  -- the error of octets that are not opened under the suite, the key and the usage
  abbrev pub IsOpenErrorUnder : CipherSuite → List ℕ → ℤ → List ℕ → Failure → Type 0
  IsOpenErrorUnder suite key usage input e =
      IsOpenError (padding_octets_of suite) (IsGiven (IsSealed suite key usage) (confounder_octets_of suite) input)
      (length key ≡ key_octets_of suite) (λ why. why ≡ error_of suite key input) e

  -- the command's error for the input
  abbrev pub IsRejection : Command → List ℕ → Failure → Type 0
  IsRejection Check input e = IsReadError input e
  IsRejection (Seal key confounder) input e = IsSealError (key_octets_of key.suite) key.octets.items input e
  IsRejection (Open key) input e = IsOpenErrorUnder key.suite key.octets.items key.usage input e

-- what a command keeps of its arguments
abbrev pub HasConfounder : Command → Type 0
HasConfounder Check = Unit {0}
HasConfounder (Seal key confounder) = length confounder.items ≡ confounder_octets_of key.suite
HasConfounder (Open key) = Unit {0}
