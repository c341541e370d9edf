-- What a proxy passes back to a client (RFC 4120, 5.4.2 and 5.9.1; RFC 3244, 2).
use Rattle.std.specs.Prelude.{◌≡◌, ◌⊎◌, ℕ, ◌<◌, List, [], length}
use Rattle.krb_der_core.specs.declared.der.DerEncode.{Ghosts as EncodingOf}
use Rattle.krb_messages.specs.declared.messages.replies.KdcRep.{KdcRep}
use Rattle.krb_messages.specs.declared.messages.application.ApRepInner.{ApRepInner}
use Rattle.krb_messages.specs.declared.messages.private.KrbPrivInner.{KrbPrivInner}
use Rattle.krb_messages.specs.declared.messages.errors.KrbErrorInner.{KrbErrorInner}
use Rattle.krb_kdc_proxy.specs.declared.error.ProxyError.{ProxyError}
use Rattle.krb_kdc_proxy.specs.declared.error.ProxyError.TheVariants as errors
use Rattle.krb_kdc_proxy.specs.declared.frame.Direction.TheVariants as direction
use Rattle.krb_kdc_proxy.specs.declared.kind.MessageKind.TheVariants as kind
use Rattle.krb_kdc_proxy.specs.declared.replies.Reply.{Reply}
use Rattle.krb_kdc_proxy.specs.declared.replies.Reply.TheVariants as replies
use Rattle.krb_kdc_proxy.specs.Frames.{BeginsAsFrame, IsFrame, IsNoFrame}
use Rattle.krb_kdc_proxy.specs.Messages.{IsMessage, IsNoMessage, Numbers}
use Rattle.krb_kdc_proxy.specs.Requests.{IsTagged, private_numbers}

-- the numbers that each message begins with
abbrev pub reply_numbers : Numbers KdcRep
reply_numbers = record { pvno = λ v. v.pvno; msg_type = λ v. v.msg_type }

abbrev pub ap_reply_numbers : Numbers ApRepInner
ap_reply_numbers = record { pvno = λ v. v.pvno; msg_type = λ v. v.msg_type }

abbrev pub error_numbers : Numbers KrbErrorInner
error_numbers = record { pvno = λ v. v.pvno; msg_type = λ v. v.msg_type }

-- ---- replies of a KDC

-- an AS-REP, a TGS-REP or a KRB-ERROR
abbrev pub IsKdcReply : EncodingOf KdcRep → EncodingOf KdcRep → EncodingOf KrbErrorInner → List ℕ → Reply → Type 0
IsKdcReply as_rep tgs_rep krb_error octets reply =
    ((reply ≡ replies.AsRep) × ((v : KdcRep) × IsMessage as_rep reply_numbers kind.AsRep octets v))
    ⊎ (((reply ≡ replies.TgsRep) × ((v : KdcRep) × IsMessage tgs_rep reply_numbers kind.TgsRep octets v))
    ⊎ ((reply ≡ replies.KrbError) × ((v : KrbErrorInner) × IsMessage krb_error error_numbers kind.KrbError octets v)))

-- Why octets are none of these. By their first octet they are an AS-REP (application 11), a TGS-REP (application 13) or a KRB-ERROR
-- (application 30) or none.
abbrev pub IsNoKdcReply : EncodingOf KdcRep → EncodingOf KdcRep → EncodingOf KrbErrorInner → List ℕ → ProxyError → Type 0
IsNoKdcReply as_rep tgs_rep krb_error octets error =
    (IsTagged 107 octets × IsNoMessage as_rep reply_numbers kind.AsRep octets error)
    ⊎ ((IsTagged 109 octets × IsNoMessage tgs_rep reply_numbers kind.TgsRep octets error)
    ⊎ ((IsTagged 126 octets × IsNoMessage krb_error error_numbers kind.KrbError octets error)
    ⊎ ((error ≡ errors.OtherKind) × (IsTagged 107 octets → ⊥) × (IsTagged 109 octets → ⊥) × (IsTagged 126 octets → ⊥))))

-- ---- replies to a change of a password

-- an AP-REP and a KRB-PRIV; or no first message, and a KRB-ERROR
abbrev pub AreChangeReplies : EncodingOf ApRepInner → EncodingOf KrbPrivInner → EncodingOf KrbErrorInner → List ℕ → List ℕ → Type 0
AreChangeReplies ap_rep krb_priv krb_error first second =
    ((0 < length first) × ((v : ApRepInner) × IsMessage ap_rep ap_reply_numbers kind.ApRep first v)
    × ((w : KrbPrivInner) × IsMessage krb_priv private_numbers kind.KrbPriv second w))
    ⊎ ((first ≡ []) × ((v : KrbErrorInner) × IsMessage krb_error error_numbers kind.KrbError second v))

-- Why two messages are neither: where there is a first, it is no AP-REP, or else the second is no KRB-PRIV; where there is none, the second is
-- no KRB-ERROR.
abbrev pub AreNoChangeReplies : EncodingOf ApRepInner → EncodingOf KrbPrivInner → EncodingOf KrbErrorInner → List ℕ → List ℕ → ProxyError → Type 0
AreNoChangeReplies ap_rep krb_priv krb_error first second error =
    ((0 < length first) × (IsNoMessage ap_rep ap_reply_numbers kind.ApRep first error
    ⊎ ((v : ApRepInner) × IsMessage ap_rep ap_reply_numbers kind.ApRep first v × IsNoMessage krb_priv private_numbers kind.KrbPriv second error)))
    ⊎ ((first ≡ []) × IsNoMessage krb_error error_numbers kind.KrbError second error)

-- a frame of such messages
abbrev pub IsChangeReply : EncodingOf ApRepInner → EncodingOf KrbPrivInner → EncodingOf KrbErrorInner → List ℕ → Type 0
IsChangeReply ap_rep krb_priv krb_error octets =
    (first : List ℕ) × (second : List ℕ) × IsFrame direction.Reply octets first second × AreChangeReplies ap_rep krb_priv krb_error first second

-- Why octets that begin as a frame are none: the first message does not end within it; else they are others.
abbrev pub IsNoChangeReply : EncodingOf ApRepInner → EncodingOf KrbPrivInner → EncodingOf KrbErrorInner → List ℕ → ProxyError → Type 0
IsNoChangeReply ap_rep krb_priv krb_error octets error =
    ((error ≡ errors.FrameLength) × IsNoFrame direction.Reply octets)
    ⊎ ((first : List ℕ) × (second : List ℕ) × IsFrame direction.Reply octets first second × AreNoChangeReplies ap_rep krb_priv krb_error first second error)

-- ---- both

-- the types of messages that a reply has
pub record ReplyTypes : Type 1 where
  pub as_rep : EncodingOf KdcRep
  pub tgs_rep : EncodingOf KdcRep
  pub krb_error : EncodingOf KrbErrorInner
  pub ap_rep : EncodingOf ApRepInner
  pub krb_priv : EncodingOf KrbPrivInner

abbrev pub reply_types : EncodingOf KdcRep → EncodingOf KdcRep → EncodingOf KrbErrorInner → EncodingOf ApRepInner → EncodingOf KrbPrivInner → ReplyTypes
reply_types as_rep tgs_rep krb_error ap_rep krb_priv =
    record { as_rep = as_rep; tgs_rep = tgs_rep; krb_error = krb_error; ap_rep = ap_rep; krb_priv = krb_priv }

-- The octets are such a reply of a KDC or of the server that changes passwords. What begins as a frame is a frame or nothing.
abbrev pub IsReply : ReplyTypes → List ℕ → Reply → Type 0
IsReply t octets reply =
    (BeginsAsFrame direction.Reply octets × (reply ≡ replies.PasswordChange) × IsChangeReply t.ap_rep t.krb_priv t.krb_error octets)
    ⊎ ((BeginsAsFrame direction.Reply octets → ⊥) × IsKdcReply t.as_rep t.tgs_rep t.krb_error octets reply)

-- why they are none: by the first rule that they break
abbrev pub IsNoReply : ReplyTypes → List ℕ → ProxyError → Type 0
IsNoReply t octets error =
    (BeginsAsFrame direction.Reply octets × IsNoChangeReply t.ap_rep t.krb_priv t.krb_error octets error)
    ⊎ ((BeginsAsFrame direction.Reply octets → ⊥) × IsNoKdcReply t.as_rep t.tgs_rep t.krb_error octets error)
