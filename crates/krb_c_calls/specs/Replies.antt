-- What goes back to a client (MS-KKDCP, 3.2.5.2).
use Rattle.std.specs.Prelude.{◌≡◌, ℕ, List}
use Rattle.krb_der_core.specs.declared.der.DerEncode.{Ghosts as EncodingOf}
use Rattle.krb_messages.specs.declared.messages.proxy.KdcProxyMessage.{KdcProxyMessage}
use Rattle.krb_kdc_proxy.specs.declared.stream.Whole.{Whole}
use Rattle.krb_kdc_proxy.specs.declared.stream.Whole.TheVariants as whole
use Rattle.krb_kdc_proxy.specs.Prefixed.{prefixed}
use Rattle.krb_kdc_proxy.specs.Replies.{ReplyTypes}
use Rattle.krb_kdc_proxy.specs.Streams.{HasArrived, IsPosting}

-- the octets are the message that goes back for this stream
abbrev pub IsReplyMade : EncodingOf KdcProxyMessage → ReplyTypes → List ℕ → List ℕ → Type 0
IsReplyMade proxy t stream made = (datagram : List ℕ) × IsPosting proxy t stream datagram made

-- the octets are the message that goes back for this datagram
abbrev pub IsDatagramReplyMade : EncodingOf KdcProxyMessage → ReplyTypes → List ℕ → List ℕ → Type 0
IsDatagramReplyMade proxy t datagram made = IsPosting proxy t (prefixed datagram) datagram made

-- 0 whole, 10 not yet, 30 never
abbrev pub whole_status : Whole → ℕ
whole_status whole.Yes = 0
whole_status whole.NotYet = 10
whole_status whole.Never = 30

abbrev pub IsArrivalTold : List ℕ → ℕ → ℕ → Type 0
IsArrivalTold octets limit status = (w : Whole) × HasArrived octets limit w × (status ≡ whole_status w)
