-- What sealed data holds, once its plaintext is known.
use Rattle.std.proofs.Common.{◌≡◌, ℕ, List, refl, subst}
use Rattle.krb_gss_per_message.specs.Keys.{Key}
use Rattle.krb_gss_per_message.specs.Unwrap.{IsOpened, IsPlaintextOf, IsSealedDataOf}
use Rattle.krb_gss_per_message.specs.UnwrapSteps.{RefusesOpening, RefusesSealedData}
use Rattle.krb_gss_per_message.specs.declared.error.ProtectionError.{ProtectionError}
use Rattle.krb_gss_per_message.specs.declared.error.ProtectionError.TheVariants as errors
use Rattle.krb_gss_per_message.proofs.Plaintexts.{message_once}

-- what is opened is not refused
pub opening_kept : (key : Key) (octets plaintext : List ℕ) (e : ProtectionError) → IsOpened key octets plaintext → RefusesOpening key octets e → e ≡ errors.OutOfMemory
opening_kept key octets plaintext errors.OutOfMemory is refuses = refl
opening_kept key octets plaintext (errors.Opening e) is refuses = absurd (refuses.0 plaintext is)
opening_kept key octets plaintext (errors.Token e) is refuses = absurd refuses
opening_kept key octets plaintext errors.Direction is refuses = absurd refuses
opening_kept key octets plaintext errors.Subkey is refuses = absurd refuses
opening_kept key octets plaintext errors.Sealed is refuses = absurd refuses
opening_kept key octets plaintext errors.Checksum is refuses = absurd refuses
opening_kept key octets plaintext errors.SealedHeader is refuses = absurd refuses

pub opening_refused : (key : Key) (extra : ℕ) (header octets : List ℕ) (e : ProtectionError) → RefusesOpening key octets e → RefusesSealedData key extra header octets e
opening_refused key extra header octets errors.OutOfMemory refuses = tt
opening_refused key extra header octets (errors.Opening e) refuses = refuses
opening_refused key extra header octets (errors.Token e) refuses = absurd refuses
opening_refused key extra header octets errors.Direction refuses = absurd refuses
opening_refused key extra header octets errors.Subkey refuses = absurd refuses
opening_refused key extra header octets errors.Sealed refuses = absurd refuses
opening_refused key extra header octets errors.Checksum refuses = absurd refuses
opening_refused key extra header octets errors.SealedHeader refuses = absurd refuses

-- a plaintext that is the only one and holds nothing
pub nothing_held : (key : Key) (extra : ℕ) (header octets plaintext : List ℕ) → ((other : List ℕ) → IsOpened key octets other → other ≡ plaintext)
    → ((message : List ℕ) → ¬ IsPlaintextOf extra header plaintext message) → (message : List ℕ) → ¬ IsSealedDataOf key extra header octets message
nothing_held key extra header octets plaintext only none message is =
    none message (subst (λ (xs : List ℕ). IsPlaintextOf extra header xs message) (only is.0 is.1) is.2)

-- and one that holds a message
pub held_once : (key : Key) (extra : ℕ) (header octets plaintext message other : List ℕ) → ((other : List ℕ) → IsOpened key octets other → other ≡ plaintext)
    → IsPlaintextOf extra header plaintext message → IsSealedDataOf key extra header octets other → message ≡ other
held_once key extra header octets plaintext message other only holds is =
    message_once extra header plaintext message other holds (subst (λ (xs : List ℕ). IsPlaintextOf extra header xs other) (only is.0 is.1) is.2)
