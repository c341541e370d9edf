-- The half that returned an error, and the error.
use Rattle.std.specs.Prelude.{◌≡◌, ◌≢◌, ◌⊎◌, ℕ, List, length}
use Rattle.krb_crypto_hash.specs.declared.error.KerberosCryptoError.{KerberosCryptoError}
use Rattle.krb_crypto_hash.specs.declared.error.KerberosCryptoError.TheVariants as crypto
use Rattle.krb_der_core.specs.declared.error.Asn1DerError.{Asn1DerError}
use Rattle.krb_der_core.specs.declared.error.Asn1DerError.TheVariants as der
use Rattle.krb_crypto.specs.declared.seal.error.PartError.{PartError}
use Rattle.krb_crypto.specs.declared.seal.error.PartError.TheVariants.{Crypto, Der}

-- an allocation failed, in either half
abbrev pub IsMemory : PartError → Type 0
IsMemory (Crypto e) = e ≡ crypto.OutOfMemory
IsMemory (Der e) = e ≡ der.OutOfMemory

-- an allocation failed, or this holds
abbrev pub IsPartMemoryOr : PartError → Type 0 → Type 0
IsPartMemoryOr e P = IsMemory e ⊎ P

-- the cipher's error for a key that has not size octets
abbrev pub IsPartKeyLengthError : ℕ → List ℕ → PartError → Type 0
IsPartKeyLengthError size key e = (length key ≢ size) × (e ≡ Crypto (crypto.KeyLength (length key) size))

-- the error is the cipher's
abbrev pub IsCrypto : PartError → Type 0
IsCrypto (Crypto e) = Unit {0}
IsCrypto (Der e) = ⊥

-- where the error is the cipher's, this holds of it
abbrev pub IfCrypto : PartError → (KerberosCryptoError → Type 0) → Type 0
IfCrypto (Crypto e) P = P e
IfCrypto (Der e) P = Unit {0}

-- where the error is that of the value's type, this holds of it
abbrev pub IfDer : PartError → (Asn1DerError → Type 0) → Type 0
IfDer (Crypto e) P = Unit {0}
IfDer (Der e) P = P e
