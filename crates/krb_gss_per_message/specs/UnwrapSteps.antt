-- The steps of unwrapping: what the data of a token holds, sealed and not, and why it does not (RFC 4121, 4.2.4).
use Rattle.std.specs.Prelude.{◌≡◌, ℕ, Bool, true, false, List, Vec, Result, MatchResult}
use Rattle.std.specs.declared.alloc.Global.{Global}
use Rattle.krb_crypto_message.specs.Sealing.{HasNoPayload}
use Rattle.krb_crypto.specs.BySuite.{error_of}
use Rattle.krb_gss_per_message.specs.Keys.{Key}
use Rattle.krb_gss_per_message.specs.Wrap.{IsSealedUnder, unrotated_header}
use Rattle.krb_gss_per_message.specs.Unwrap.{IsOpened, IsSealedDataOf, IsClearDataOf}
use Rattle.krb_gss_per_message.specs.declared.error.ProtectionError.{ProtectionError}
use Rattle.krb_gss_per_message.specs.declared.error.ProtectionError.TheVariants as errors

-- nothing is sealed to the octets
abbrev pub RefusesOpening : Key → List ℕ → ProtectionError → Type 0
RefusesOpening key octets errors.OutOfMemory = Unit {0}
RefusesOpening key octets (errors.Opening e) = HasNoPayload (IsSealedUnder key) 16 octets × (e ≡ error_of key.suite key.octets octets)
RefusesOpening key octets (errors.Token e) = ⊥
RefusesOpening key octets errors.Direction = ⊥
RefusesOpening key octets errors.Subkey = ⊥
RefusesOpening key octets errors.Sealed = ⊥
RefusesOpening key octets errors.Checksum = ⊥
RefusesOpening key octets errors.SealedHeader = ⊥

-- nothing is; else a plaintext is that does not end in the filler and the header
abbrev pub RefusesSealedData : Key → ℕ → List ℕ → List ℕ → ProtectionError → Type 0
RefusesSealedData key extra header octets errors.OutOfMemory = Unit {0}
RefusesSealedData key extra header octets (errors.Opening e) = RefusesOpening key octets (errors.Opening e)
RefusesSealedData key extra header octets errors.SealedHeader =
    ((plaintext : List ℕ) × IsOpened key octets plaintext) × ((message : List ℕ) → ¬ IsSealedDataOf key extra header octets message)
RefusesSealedData key extra header octets (errors.Token e) = ⊥
RefusesSealedData key extra header octets errors.Direction = ⊥
RefusesSealedData key extra header octets errors.Subkey = ⊥
RefusesSealedData key extra header octets errors.Sealed = ⊥
RefusesSealedData key extra header octets errors.Checksum = ⊥

-- the octets are no message and its checksum
abbrev pub RefusesClearData : Key → ℕ → List ℕ → List ℕ → ProtectionError → Type 0
RefusesClearData key extra header octets errors.OutOfMemory = Unit {0}
RefusesClearData key extra header octets errors.Checksum = (message : List ℕ) → ¬ IsClearDataOf key extra header octets message
RefusesClearData key extra header octets (errors.Token e) = ⊥
RefusesClearData key extra header octets errors.Direction = ⊥
RefusesClearData key extra header octets errors.Subkey = ⊥
RefusesClearData key extra header octets errors.Sealed = ⊥
RefusesClearData key extra header octets (errors.Opening e) = ⊥
RefusesClearData key extra header octets errors.SealedHeader = ⊥

-- of a sealed token, and of another
abbrev pub RefusesData : Bool → Key → ℕ → ℕ → ℕ → List ℕ → ProtectionError → Type 0
RefusesData true key flags extra number octets e = RefusesSealedData key extra (unrotated_header flags extra number) octets e
RefusesData false key flags extra number octets e = RefusesClearData key extra (unrotated_header flags 0 number) octets e

-- The answer is these octets, unless memory ran out.
abbrev pub ReturnsOctets : List ℕ → Result (Vec ℕ Global) ProtectionError → Type 0
ReturnsOctets octets answer = MatchResult answer (λ v. v.items ≡ octets) (λ e. e ≡ errors.OutOfMemory)
