-- When a call of the cryptography returns which error.
use Rattle.std.specs.Prelude.{◌≡◌, ◌≢◌, ◌⊎◌, ℕ, ◌<◌, List, length}
use Rattle.krb_crypto_hash.specs.declared.error.KerberosCryptoError.{KerberosCryptoError}
use Rattle.krb_crypto_hash.specs.declared.error.KerberosCryptoError.TheVariants.{CipherLength, KeyLength, OutOfMemory}

-- an allocation failed, or this holds
abbrev pub IsMemoryOr : KerberosCryptoError → Type 0 → Type 0
IsMemoryOr e P = (e ≡ OutOfMemory) ⊎ P

-- the error of a key that has not size octets
abbrev pub IsKeyLengthError : ℕ → List ℕ → KerberosCryptoError → Type 0
IsKeyLengthError size key e = (length key ≢ size) × (e ≡ KeyLength (length key) size)

-- the error of an allocation, or of a key that has not size octets
abbrev pub RejectsKey : ℕ → List ℕ → KerberosCryptoError → Type 0
RejectsKey size key e = IsMemoryOr e (IsKeyLengthError size key e)

-- and, under a key of size octets, the error for what is bad
abbrev pub RejectsKeyOr : ℕ → List ℕ → Type 0 → KerberosCryptoError → KerberosCryptoError → Type 0
RejectsKeyOr size key bad why e = IsMemoryOr e (IsKeyLengthError size key e ⊎ ((length key ≡ size) × bad × (e ≡ why)))

-- and, under a key of size octets, the error for fewer octets than the least
abbrev pub IsKeyOrCipherLengthError : ℕ → List ℕ → ℕ → List ℕ → KerberosCryptoError → Type 0
IsKeyOrCipherLengthError size key least octets e = RejectsKeyOr size key (length octets < least) (CipherLength (length octets) least) e
