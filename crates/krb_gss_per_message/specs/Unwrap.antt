-- What a Wrap token holds (RFC 4121, 4.2.4, 4.2.5 and 4.2.6.2), and why it does not.
use Rattle.std.specs.Prelude.{◌≡◌, ◌≢◌, ℕ, ◌<◌, ◌^◌, Bool, true, false, List, ◌++◌, length, Result, MatchResult}
use Rattle.krb_crypto_message.specs.Sealing.{IsGiven, HasNoPayload}
use Rattle.krb_crypto.specs.BySuite.{error_of}
use Rattle.krb_gss_tokens.specs.Layout.{wrap_header}
use Rattle.krb_gss_tokens.specs.PerMessageRejected.{WrapFirstError}
use Rattle.krb_gss_tokens.specs.declared.error.GssApiMessageError.TheVariants as gss
use Rattle.krb_gss_per_message.specs.Keys.{Key, IsSentBy, IsUnderSubkeyOf, AreFlagsOf}
use Rattle.krb_gss_per_message.specs.Rotation.{rotated_right}
use Rattle.krb_gss_per_message.specs.Wrap.{IsSealedUnder, clear_sum, unrotated_header}
use Rattle.krb_gss_per_message.specs.declared.unwrapping.Unwrapped.{Unwrapped}
use Rattle.krb_gss_per_message.specs.declared.error.ProtectionError.{ProtectionError}
use Rattle.krb_gss_per_message.specs.declared.error.ProtectionError.TheVariants as errors

-- The token is a header of these fields and, rotated to the right by RRC, these octets; the numbers fit their fields.
pub record IsWrapToken (token : List ℕ) (flags extra rotation number : ℕ) (unrotated : List ℕ) : Type 0 where
  pub extra_fits : extra < 2 ^ 16
  pub rotation_fits : rotation < 2 ^ 16
  pub number_fits : number < 2 ^ 64
  pub concatenated : token ≡ wrap_header flags extra rotation number ++ rotated_right rotation unrotated

-- some confounder of 16 octets seals the plaintext to these octets
abbrev pub IsOpened : Key → List ℕ → List ℕ → Type 0
IsOpened key octets plaintext = IsGiven (IsSealedUnder key) 16 octets plaintext

-- the plaintext is the message, so many octets of filler, and this header (RFC 4121, 4.2.4)
abbrev pub IsPlaintextOf : ℕ → List ℕ → List ℕ → List ℕ → Type 0
IsPlaintextOf extra header plaintext message =
    (filler : List ℕ) × (length filler ≡ extra) × (plaintext ≡ message ++ filler ++ header)

-- a plaintext is sealed to the octets, and is the message, the filler and the header
abbrev pub IsSealedDataOf : Key → ℕ → List ℕ → List ℕ → List ℕ → Type 0
IsSealedDataOf key extra header octets message =
    (plaintext : List ℕ) × IsOpened key octets plaintext × IsPlaintextOf extra header plaintext message

-- the octets are the message and its checksum with this header, which has so many octets (RFC 4121, 4.2.4)
abbrev pub IsClearDataOf : Key → ℕ → List ℕ → List ℕ → List ℕ → Type 0
IsClearDataOf key extra header octets message = (octets ≡ message ++ clear_sum key header message) × (extra ≡ length (clear_sum key header message))

-- What the data of a token with these flags, this EC and this number holds, sealed or not: the header that is sealed with it has the token's EC,
-- the one that the checksum is over 0, and both have RRC 0 (RFC 4121, 4.2.4).
abbrev pub Holds : Bool → Key → ℕ → ℕ → ℕ → List ℕ → List ℕ → Type 0
Holds true key flags extra number octets message = IsSealedDataOf key extra (unrotated_header flags extra number) octets message
Holds false key flags extra number octets message = IsClearDataOf key extra (unrotated_header flags 0 number) octets message

-- The token holds this message under this sequence number, sealed or not, whatever its reserved flags and its rotation.
abbrev pub IsUnwrapped : Key → List ℕ → Bool → ℕ → List ℕ → Type 0
IsUnwrapped key token sealed number message =
    (flags extra rotation : ℕ) × (octets : List ℕ) × IsWrapToken token flags extra rotation number octets
    × AreFlagsOf key sealed flags × Holds sealed key flags extra number octets message

-- Why a token holds no message, the first that is so of: no header of a Wrap token; sent by the other side; under another key, by the flag
-- AcceptorSubkey; and, where it is sealed, data that nothing is sealed to, or a plaintext that does not end in the filler and the header;
-- where it is not, data that is no message and its checksum. Memory may always run out.
abbrev pub RefusesUnwrap : Key → List ℕ → ProtectionError → Type 0
RefusesUnwrap key token errors.OutOfMemory = Unit {0}
RefusesUnwrap key token (errors.Token e) = WrapFirstError token e × (e ≢ gss.OutOfMemory)
RefusesUnwrap key token errors.Direction =
    (flags extra rotation number : ℕ) × (octets : List ℕ) × IsWrapToken token flags extra rotation number octets × ¬ IsSentBy key flags
RefusesUnwrap key token errors.Subkey =
    (flags extra rotation number : ℕ) × (octets : List ℕ) × IsWrapToken token flags extra rotation number octets
    × IsSentBy key flags × ¬ IsUnderSubkeyOf key flags
RefusesUnwrap key token (errors.Opening e) =
    (flags extra rotation number : ℕ) × (octets : List ℕ) × IsWrapToken token flags extra rotation number octets
    × AreFlagsOf key true flags × HasNoPayload (IsSealedUnder key) 16 octets × (e ≡ error_of key.suite key.octets octets)
RefusesUnwrap key token errors.SealedHeader =
    (flags extra rotation number : ℕ) × (octets : List ℕ) × IsWrapToken token flags extra rotation number octets
    × AreFlagsOf key true flags × ((plaintext : List ℕ) × IsOpened key octets plaintext)
    × ((message : List ℕ) → ¬ IsSealedDataOf key extra (unrotated_header flags extra number) octets message)
RefusesUnwrap key token errors.Checksum =
    (flags extra rotation number : ℕ) × (octets : List ℕ) × IsWrapToken token flags extra rotation number octets
    × AreFlagsOf key false flags × ((message : List ℕ) → ¬ IsClearDataOf key extra (unrotated_header flags 0 number) octets message)
RefusesUnwrap key token errors.Sealed = ⊥

-- The answer is that message, number and mark, unless memory ran out.
abbrev pub Returns : Bool → ℕ → List ℕ → Result Unwrapped ProtectionError → Type 0
Returns sealed number message answer =
    MatchResult answer (λ held. (held.sealed ≡ sealed) × (held.sequence_number ≡ number) × (held.message.items ≡ message)) (λ e. e ≡ errors.OutOfMemory)
