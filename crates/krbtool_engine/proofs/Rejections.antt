-- Errors of parts, as those of a run.
use Rattle.std.proofs.Common.{◌≡◌, ◌≢◌, ℕ, Bool, List, refl, inl, inr}
use Rattle.krb_crypto_hash.specs.CryptoError.{IsMemoryOr}
use Rattle.krb_crypto_hash.specs.declared.error.KerberosCryptoError.{KerberosCryptoError}
use Rattle.krb_crypto_hash.specs.declared.error.KerberosCryptoError.TheVariants as crypto
use Rattle.krb_der_core.specs.Errors.{OrMemory}
use Rattle.krb_der_core.specs.Reading.{Encodings}
use Rattle.krb_der_core.specs.declared.error.Asn1DerError.{Asn1DerError}
use Rattle.krb_der_core.specs.declared.error.Asn1DerError.TheVariants as der
use Rattle.krb_crypto_message.specs.Sealing.{IsOfNone, Opens}
use Rattle.krb_crypto.specs.Padded.{PaddedError, RejectsPadded}
use Rattle.krb_crypto.specs.PartError.{IfCrypto, IfDer}
use Rattle.krb_crypto.specs.declared.seal.error.PartError.{PartError}
use Rattle.krb_crypto.specs.declared.seal.error.PartError.TheVariants as part
use Rattle.krbtool_engine.specs.declared.failure.Failure.{Failure}
use Rattle.krbtool_engine.specs.Failures.{of_part}
use Rattle.krbtool_engine.specs.declared.failure.Failure.TheVariants.{Arguments, Der, Crypto}
use Rattle.krbtool_engine.specs.declared.command.Command.{Command}
use Rattle.krbtool_engine.specs.declared.command.Command.TheVariants.{Check, Seal, Open}
use Rattle.krbtool_engine.specs.Commands.{IsReadError, IsSealError, IsOpenError, IsRejection}

-- an error that is not for an allocation failure
not_memory : {P : Type 0} (why : KerberosCryptoError) → why ≢ crypto.OutOfMemory → IsMemoryOr why P → P
not_memory why other (inl memory) = absurd (other memory)
not_memory why other (inr held) = held

-- nor is this one
not_der_memory : (P : Asn1DerError → Type 0) (why : Asn1DerError) → why ≢ der.OutOfMemory → OrMemory P why → P why
not_der_memory P why other (inl memory) = absurd (other memory)
not_der_memory P why other (inr held) = held

module _ {V : Type 0} (is_value : V → Type 0) (enc : V → List ℕ) (first : ℕ → Bool) (error : ℕ → List ℕ → Asn1DerError → Type 0) where
  pub open_error_of_part : (padding : ℕ) (given : List ℕ → Type 0) (right : Type 0) (unopened : KerberosCryptoError → Type 0) (e : PartError)
      → (right → IfCrypto e (λ why. IsMemoryOr why (IsOfNone given))) → IfCrypto e (λ why. IsMemoryOr why (unopened why))
      → IfDer e (λ why. (padded : List ℕ) × Opens padding given padded × RejectsPadded (Encodings is_value enc) padding padded why
      × OrMemory (PaddedError (Encodings is_value enc) first error padding padded) why)
      → IsOpenError is_value enc first error padding given right unopened (of_part e)
  open_error_of_part padding given right unopened (part.Crypto crypto.OutOfMemory) none exact more = inl refl
  open_error_of_part padding given right unopened (part.Crypto why) none exact more =
      let other : why ≢ crypto.OutOfMemory = λ same. (cc) in
      inr (inl (why, refl, not_memory why other exact, λ is. not_memory why other (none is)))
  open_error_of_part padding given right unopened (part.Der der.OutOfMemory) none exact more = inl refl
  open_error_of_part padding given right unopened (part.Der why) none exact more = inr (inr (why, refl, more.0, more.1, more.2, not_der_memory (PaddedError (Encodings is_value enc) first error padding more.0) why (λ same. (cc)) more.3))

  -- no input is an error of the arguments

  read_error_not_arguments : (octets : List ℕ) (e : Failure) → IsReadError is_value enc first error octets e → e ≡ Arguments → ⊥
  read_error_not_arguments octets e (inl memory) same = (cc)
  read_error_not_arguments octets e (inr der) same = let is : e ≡ Der der.0 = der.1 in (cc)

  seal_error_not_arguments : (size : ℕ) (key octets : List ℕ) (e : Failure) → IsSealError is_value enc first error size key octets e → e ≡ Arguments → ⊥
  seal_error_not_arguments size key octets e (inl unread) same = read_error_not_arguments octets e unread same
  seal_error_not_arguments size key octets e (inr other) same = let is = other.1 in (cc)

  open_error_not_arguments : (padding : ℕ) (given : List ℕ → Type 0) (right : Type 0) (unopened : KerberosCryptoError → Type 0) (e : Failure)
      → IsOpenError is_value enc first error padding given right unopened e → e ≡ Arguments → ⊥
  open_error_not_arguments padding given right unopened e (inl memory) same = (cc)
  open_error_not_arguments padding given right unopened e (inr (inl other)) same = let is : e ≡ Crypto other.0 = other.1 in (cc)
  open_error_not_arguments padding given right unopened e (inr (inr other)) same = let is : e ≡ Der other.0 = other.1 in (cc)

  pub rejection_not_arguments : (command : Command) (octets : List ℕ) (e : Failure) → IsRejection is_value enc first error command octets e → e ≡ Arguments → ⊥
  rejection_not_arguments Check octets e why same = read_error_not_arguments octets e why same
  rejection_not_arguments (Seal key confounder) octets e why same = seal_error_not_arguments _ key.octets.items octets e why same
  rejection_not_arguments (Open key) octets e why same = open_error_not_arguments _ _ _ _ e why same
