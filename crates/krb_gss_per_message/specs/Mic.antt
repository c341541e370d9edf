-- MIC tokens (RFC 4121, 4.2.4 and 4.2.6.1).
use Rattle.std.specs.Prelude.{◌≡◌, ◌≢◌, ℕ, ◌<◌, ◌^◌, true, false, List, ◌++◌}
use Rattle.krb_crypto.specs.BySuite.{checksum_suite_of, sum_of}
use Rattle.krb_gss_tokens.specs.Layout.{mic_header}
use Rattle.krb_gss_tokens.specs.PerMessageRejected.{MicFirstError}
use Rattle.krb_gss_tokens.specs.declared.error.GssApiMessageError.TheVariants as gss
use Rattle.krb_gss_per_message.specs.Keys.{Key, sign_usage_of, flags_of, IsSentBy, IsUnderSubkeyOf, AreFlagsOf}
use Rattle.krb_gss_per_message.specs.declared.error.ProtectionError.{ProtectionError}
use Rattle.krb_gss_per_message.specs.declared.error.ProtectionError.TheVariants as errors

-- SGN_CKSUM: the checksum of the message and then the header (RFC 4121, 4.2.4)
abbrev pub mic_sum : Key → ℕ → ℕ → List ℕ → List ℕ
mic_sum key flags number message = sum_of (checksum_suite_of key.suite) key.octets (sign_usage_of key.sender) (message ++ mic_header flags number)

-- the token under these flags: the header, and after it the checksum (RFC 4121, 4.2.6.1)
abbrev pub mic_token : Key → ℕ → ℕ → List ℕ → List ℕ
mic_token key flags number message = mic_header flags number ++ mic_sum key flags number message

-- The token is the one that the key's owner makes: no reserved flag is set, and Sealed is not (RFC 4121, 4.2.2).
abbrev pub IsMic : Key → ℕ → List ℕ → List ℕ → Type 0
IsMic key number message token = token ≡ mic_token key (flags_of key false) number message

-- The token holds of the message, with this sequence number, and whatever reserved flags.
abbrev pub IsMicOf : Key → List ℕ → List ℕ → ℕ → Type 0
IsMicOf key message token number =
    (number < 2 ^ 64) × ((flags : ℕ) × AreFlagsOf key false flags × (token ≡ mic_token key flags number message))

-- the token begins with a header of these flags and this number, and the checksum follows
abbrev pub IsMicToken : List ℕ → ℕ → ℕ → List ℕ → Type 0
IsMicToken token flags number checksum = token ≡ mic_header flags number ++ checksum

-- Why a token does not hold of the message, the first that is so of: no header of a MIC token; sent by the other side; under another key, by
-- the flag AcceptorSubkey; the flag Sealed; another checksum. Memory may always run out.
abbrev pub RefusesMic : Key → List ℕ → List ℕ → ProtectionError → Type 0
RefusesMic key message token errors.OutOfMemory = Unit {0}
RefusesMic key message token (errors.Token e) = MicFirstError token e × (e ≢ gss.OutOfMemory)
RefusesMic key message token errors.Direction =
    (flags number : ℕ) × (checksum : List ℕ) × IsMicToken token flags number checksum × ¬ IsSentBy key flags
RefusesMic key message token errors.Subkey =
    (flags number : ℕ) × (checksum : List ℕ) × IsMicToken token flags number checksum × IsSentBy key flags × ¬ IsUnderSubkeyOf key flags
RefusesMic key message token errors.Sealed =
    (flags number : ℕ) × (checksum : List ℕ) × IsMicToken token flags number checksum × AreFlagsOf key true flags
RefusesMic key message token errors.Checksum =
    (flags number : ℕ) × (checksum : List ℕ) × IsMicToken token flags number checksum × AreFlagsOf key false flags
    × (checksum ≢ mic_sum key flags number message)
RefusesMic key message token (errors.Opening e) = ⊥
RefusesMic key message token errors.SealedHeader = ⊥
