-- Which refusal an error of these calls is, beside those of krb_c_calls.
use Rattle.std.specs.Prelude.{ℕ}
use Rattle.krb_c_calls.specs.Statuses.{message_refusal, refusal_status}
use Rattle.krb_c_calls.specs.declared.call_error.CallError.{CallError}
use Rattle.krb_c_calls.specs.declared.call_error.CallError.TheVariants as refusals
use Rattle.krb_messages.specs.declared.kpasswd.error.ReadFrameError.{ReadFrameError}
use Rattle.krb_messages.specs.declared.kpasswd.error.ReadFrameError.TheVariants as frame
use Rattle.krb_pac.specs.declared.error.PacError.{PacError}
use Rattle.krb_pac.specs.declared.error.PacError.TheVariants as pac

-- ---- an error of a PAC

abbrev pub pac_refusal : PacError → CallError
pac_refusal pac.OutOfMemory = refusals.Memory
pac_refusal (pac.IoError e) = refusals.Truncated
pac_refusal (pac.Version n) = refusals.OtherVersion
pac_refusal (pac.InvalidVersion n) = refusals.OtherVersion
pac_refusal (pac.PacBufferType n) = refusals.PacType
pac_refusal pac.InvalidRange = refusals.PacRange

-- 10 too few octets; 25 another version; 26 a type of no buffer; 27 octets that are not there
abbrev pub pac_status : PacError → ℕ
pac_status e = refusal_status (pac_refusal e)

-- ---- an error of a frame that changes a password

abbrev pub frame_refusal : ReadFrameError → CallError
frame_refusal frame.OutOfMemory = refusals.Memory
frame_refusal frame.Cut = refusals.Truncated
frame_refusal frame.Version = refusals.OtherVersion
frame_refusal (frame.ApMessage e) = message_refusal e
frame_refusal (frame.KrbPriv e) = message_refusal e

-- 2 out of memory; 10 cut in front of the messages; 25 another version; 9, 10, 11 of a message
abbrev pub frame_status : ReadFrameError → ℕ
frame_status e = refusal_status (frame_refusal e)
