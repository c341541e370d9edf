-- Replies behind their lengths, and the messages of a proxy that hold them (RFC 4120, 7.2.2; MS-KKDCP, 2.2.2 and 3.2.5.2).
use Rattle.std.specs.Prelude.{◌≡◌, ◌⊎◌, ℕ, ◌<◌, ◌≤◌, ◌^◌, List, ◌++◌, length, None}
use Rattle.std.specs.Int.{to_be_bytes, w32}
use Rattle.krb_der_core.specs.declared.der.DerEncode.{Ghosts as EncodingOf}
use Rattle.krb_messages.specs.declared.messages.proxy.KdcProxyMessage.{KdcProxyMessage}
use Rattle.krb_kdc_proxy.specs.declared.error.ProxyError.{ProxyError}
use Rattle.krb_kdc_proxy.specs.declared.error.ProxyError.TheVariants as errors
use Rattle.krb_kdc_proxy.specs.declared.replies.Reply.{Reply}
use Rattle.krb_kdc_proxy.specs.declared.stream.Whole.{Whole}
use Rattle.krb_kdc_proxy.specs.declared.stream.Whole.TheVariants as whole
use Rattle.krb_der.specs.Whole.{Encodes}
use Rattle.krb_kdc_proxy.specs.Prefixed.{IsNotPrefixed, IsPrefixed}
use Rattle.krb_kdc_proxy.specs.Replies.{IsNoReply, IsReply, ReplyTypes}

-- ---- what a KDC sends

-- the stream is a reply behind its length
pub record IsStreamReply (t : ReplyTypes) (stream datagram : List ℕ) (reply : Reply) : Type 0 where
  pub prefix : IsPrefixed stream datagram
  pub is_reply : IsReply t datagram reply

-- Why the stream is none: it is no message behind its length, or that message is no reply.
abbrev pub IsNoStreamReply : ReplyTypes → List ℕ → ProxyError → Type 0
IsNoStreamReply t stream error =
    IsNotPrefixed stream error
    ⊎ ((datagram : List ℕ) × IsPrefixed stream datagram × IsNoReply t datagram error)

-- Why a datagram is no reply: its length has no four octets whose highest bit is 0, or it is none.
abbrev pub IsNoDatagramReply : ReplyTypes → List ℕ → ProxyError → Type 0
IsNoDatagramReply t datagram error =
    ((error ≡ errors.TooLarge) × (2 ^ 31 ≤ length datagram))
    ⊎ ((length datagram < 2 ^ 31) × IsNoReply t datagram error)

-- ---- what goes back to the client

-- the message that holds these octets, and neither target-domain nor dclocator-hint
abbrev pub holding : List ℕ → KdcProxyMessage
holding stream = record { kerb_message = stream; target_domain = record { 0 = None }; dclocator_hint = record { 0 = None } }

-- the octets are the encoding of the message that holds this stream, which is a reply behind its length
pub record IsPosting (proxy : EncodingOf KdcProxyMessage) (t : ReplyTypes) (stream datagram octets : List ℕ) : Type 0 where
  pub reply : Reply
  pub sent : IsStreamReply t stream datagram reply
  pub encodes : Encodes proxy octets (holding stream)

-- ---- how much of a stream is there

-- the octets begin with a length, of so many octets, and these stand behind it
abbrev pub Announces : List ℕ → ℕ → List ℕ → Type 0
Announces octets size behind = (size < 2 ^ 32) × (octets ≡ to_be_bytes w32 size ++ behind)

-- a stream whose message has at most so many octets may have a length of so many
abbrev pub MayBe : ℕ → ℕ → Type 0
MayBe limit size = (size ≤ limit) × (size < 2 ^ 31)

-- A stream is whole where it is a message behind its length, of at most so many octets; not yet where octets are missing: of the length, or of a
-- message of at most so many; and it never will be where the length is that of a larger one, or more octets stand behind it than it says.
abbrev pub HasArrived : List ℕ → ℕ → Whole → Type 0
HasArrived octets limit whole.Yes = (message : List ℕ) × IsPrefixed octets message × (length message ≤ limit)
HasArrived octets limit whole.NotYet =
    (length octets < 4) ⊎ ((size : ℕ) × (behind : List ℕ) × Announces octets size behind × MayBe limit size × (length behind < size))
HasArrived octets limit whole.Never =
    (size : ℕ) × (behind : List ℕ) × Announces octets size behind × ((MayBe limit size → ⊥) ⊎ (size < length behind))
