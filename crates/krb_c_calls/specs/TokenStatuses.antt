-- Which refusal an error of a token is (RFC 4121, 4.2).
use Rattle.std.specs.Prelude.{ℕ}
use Rattle.krb_c_calls.specs.Statuses.{crypto_refusal, refusal_status}
use Rattle.krb_c_calls.specs.declared.call_error.CallError.{CallError}
use Rattle.krb_c_calls.specs.declared.call_error.CallError.TheVariants as refusals
use Rattle.krb_gss_per_message.specs.declared.error.ProtectionError.{ProtectionError}
use Rattle.krb_gss_per_message.specs.declared.error.ProtectionError.TheVariants as errors

-- of sealed data that is not opened, that of the cryptography's error
abbrev pub protection_refusal : ProtectionError → CallError
protection_refusal errors.OutOfMemory = refusals.Memory
protection_refusal errors.Checksum = refusals.Integrity
protection_refusal errors.Direction = refusals.Direction
protection_refusal (errors.Token e) = refusals.Token
protection_refusal errors.Subkey = refusals.Subkey
protection_refusal errors.Sealed = refusals.SealedMic
protection_refusal errors.SealedHeader = refusals.SealedHeader
protection_refusal (errors.Opening e) = crypto_refusal e

-- 2 out of memory; 7 another checksum; 15 sent by the other side; 16 no header of such a token; 17 under another key; 18 a MIC token marked as sealed;
-- 19 another header sealed in; of sealed data that is not opened 6, 7, 8
abbrev pub protection_status : ProtectionError → ℕ
protection_status e = refusal_status (protection_refusal e)
