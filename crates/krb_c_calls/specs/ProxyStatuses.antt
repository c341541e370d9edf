-- Which refusal it is that a message breaks a rule of a proxy (MS-KKDCP).
use Rattle.std.specs.Prelude.{◌≡◌, ℕ}
use Rattle.krb_messages.specs.declared.kpasswd.error.MessageError.{MessageError}
use Rattle.krb_messages.specs.declared.kpasswd.error.MessageError.TheVariants as why
use Rattle.krb_kdc_proxy.specs.declared.error.ProxyError.{ProxyError}
use Rattle.krb_kdc_proxy.specs.declared.error.ProxyError.TheVariants as errors
use Rattle.krb_kdc_proxy.specs.Messages.{OrMemory}
use Rattle.krb_c_calls.specs.Statuses.{message_refusal, refusal_status}
use Rattle.krb_c_calls.specs.declared.call_error.CallError.{CallError}
use Rattle.krb_c_calls.specs.declared.call_error.CallError.TheVariants as refusals

-- of the message that a KDC-PROXY-MESSAGE carries
abbrev pub carried_refusal : MessageError → CallError
carried_refusal why.InvalidData = refusals.ProxyInvalid
carried_refusal why.TruncatedData = refusals.ProxyTruncated
carried_refusal why.UnsupportedValue = refusals.ProxyUnsupported

-- of the KDC-PROXY-MESSAGE itself, as of any message
abbrev pub proxy_refusal : ProxyError → CallError
proxy_refusal errors.OutOfMemory = refusals.Memory
proxy_refusal (errors.ProxyMessage error) = message_refusal error
proxy_refusal errors.TooLarge = refusals.ProxyTooLarge
proxy_refusal errors.NoLength = refusals.ProxyNoLength
proxy_refusal errors.OtherLength = refusals.ProxyOtherLength
proxy_refusal errors.NoTargetDomain = refusals.ProxyNoDomain
proxy_refusal errors.OtherKind = refusals.ProxyOtherKind
proxy_refusal errors.FrameLength = refusals.ProxyFrameLength
proxy_refusal (errors.Message kind error) = carried_refusal error
proxy_refusal (errors.Pvno kind) = refusals.ProxyPvno
proxy_refusal (errors.MsgType kind) = refusals.ProxyMsgType

-- 2 out of memory; 9, 10, 11 of the KDC-PROXY-MESSAGE; 30 too large; 31 no length in front; 32 another length; 33 no target-domain; 34 of another kind;
-- 35 a frame shorter than its first message; 36, 37, 38 of the message in it; 39 another version; 40 another type
abbrev pub proxy_status : ProxyError → ℕ
proxy_status e = refusal_status (proxy_refusal e)

-- memory was wanting, or a rule is broken, and the status names which
abbrev pub Refuses : (ProxyError → Type 0) → ℕ → Type 0
Refuses rule status = (error : ProxyError) × OrMemory rule error × (status ≡ proxy_status error)
