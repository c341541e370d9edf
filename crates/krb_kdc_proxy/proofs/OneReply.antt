-- Octets are a reply of one kind, or none, and never both.
use Rattle.std.proofs.Common.{◌≡◌, ℕ, cond, eqb, List, length, refl, sym, ap, ◌∙◌, subst, inl, inr, arith}
use Rattle.krb_der_core.specs.declared.der.DerEncode.{Ghosts as EncodingOf}
use Rattle.krb_der.specs.Tags.{HasTag}
use Rattle.krb_messages.specs.declared.messages.proxy.KdcProxyMessage.{KdcProxyMessage}
use Rattle.krb_kdc_proxy.specs.declared.client.ProxyReply.{ProxyReply}
use Rattle.krb_kdc_proxy.specs.declared.error.ProxyError.{ProxyError}
use Rattle.krb_kdc_proxy.specs.declared.frame.Direction.TheVariants as direction
use Rattle.krb_kdc_proxy.specs.declared.kind.MessageKind.TheVariants as kind
use Rattle.krb_kdc_proxy.specs.declared.replies.Reply.{Reply}
use Rattle.krb_kdc_proxy.specs.declared.replies.Reply.TheVariants as replies
use Rattle.krb_kdc_proxy.specs.Client.{IsNoProxyReply, IsProxyReply}
use Rattle.krb_der.specs.Whole.{Encodes}
use Rattle.krb_kdc_proxy.specs.Prefixed.{IsPrefixed}
use Rattle.krb_kdc_proxy.specs.Replies.{AreChangeReplies, AreNoChangeReplies, IsChangeReply, IsKdcReply, IsNoChangeReply, IsNoKdcReply, IsNoReply, IsReply, ReplyTypes}
use Rattle.krb_kdc_proxy.specs.Replies.{ap_reply_numbers, error_numbers, reply_numbers}
use Rattle.krb_kdc_proxy.specs.Requests.{IsTagged, private_numbers}
use Rattle.krb_kdc_proxy.specs.Streams.{IsNoStreamReply, IsPosting, IsStreamReply, holding}
use Rattle.krb_kdc_proxy.proofs.OneFrame.{one_frame}
use Rattle.krb_kdc_proxy.proofs.OneMessage.{apart, not_both, one_prefixed, one_tag, one_value, prefixed_is, tagged}

-- the first octets of the types
pub record ReplyTags (t : ReplyTypes) : Type 0 where
  pub as_rep : HasTag 107 t.as_rep.first
  pub tgs_rep : HasTag 109 t.tgs_rep.first
  pub krb_error : HasTag 126 t.krb_error.first

-- the kind of a KDC's reply with this first octet
reply_with : ℕ → Reply
reply_with tag = cond (eqb tag 107) replies.AsRep (cond (eqb tag 109) replies.TgsRep replies.KrbError)

module _ (t : ReplyTypes) (tags : ReplyTags t) where
  -- ---- replies of a KDC

  kdc_tag : (octets : List ℕ) (reply : Reply) → IsKdcReply t.as_rep t.tgs_rep t.krb_error octets reply → (tag : ℕ) × IsTagged tag octets × (reply ≡ reply_with tag)
  unfolding reply_with
  kdc_tag octets reply (inl x) = (107, tagged t.as_rep 107 tags.as_rep octets x.1.0 x.1.1.encodes, x.0)
  kdc_tag octets reply (inr (inl x)) = (109, tagged t.tgs_rep 109 tags.tgs_rep octets x.1.0 x.1.1.encodes, x.0)
  kdc_tag octets reply (inr (inr x)) = (126, tagged t.krb_error 126 tags.krb_error octets x.1.0 x.1.1.encodes, x.0)

  one_kdc_reply : (octets : List ℕ) (a b : Reply) → IsKdcReply t.as_rep t.tgs_rep t.krb_error octets a → IsKdcReply t.as_rep t.tgs_rep t.krb_error octets b → a ≡ b
  one_kdc_reply octets a b x y =
      let s = kdc_tag octets a x in
      let u = kdc_tag octets b y in
      s.2 ∙ ap reply_with (one_tag s.0 u.0 octets s.1 u.1) ∙ sym u.2

  kdc_reply_or_none : (octets : List ℕ) (reply : Reply) (error : ProxyError) → IsKdcReply t.as_rep t.tgs_rep t.krb_error octets reply
      → IsNoKdcReply t.as_rep t.tgs_rep t.krb_error octets error → ⊥
  kdc_reply_or_none octets reply error (inl x) n =
      let s = tagged t.as_rep 107 tags.as_rep octets x.1.0 x.1.1.encodes in
      elim n [
        | inl y ↦ not_both t.as_rep reply_numbers kind.AsRep octets x.1.0 error x.1.1 y.1
        | inr rest ↦ elim rest [ inl y ↦ apart 107 109 octets refl s y.0 | inr more ↦ elim more [ inl y ↦ apart 107 126 octets refl s y.0 | inr y ↦ y.1 s ] ]
      ]
  kdc_reply_or_none octets reply error (inr (inl x)) n =
      let s = tagged t.tgs_rep 109 tags.tgs_rep octets x.1.0 x.1.1.encodes in
      elim n [
        | inl y ↦ apart 109 107 octets refl s y.0
        | inr rest ↦ elim rest [
          | inl y ↦ not_both t.tgs_rep reply_numbers kind.TgsRep octets x.1.0 error x.1.1 y.1
          | inr more ↦ elim more [ inl y ↦ apart 109 126 octets refl s y.0 | inr y ↦ y.2 s ]
        ]
      ]
  kdc_reply_or_none octets reply error (inr (inr x)) n =
      let s = tagged t.krb_error 126 tags.krb_error octets x.1.0 x.1.1.encodes in
      elim n [
        | inl y ↦ apart 126 107 octets refl s y.0
        | inr rest ↦ elim rest [
          | inl y ↦ apart 126 109 octets refl s y.0
          | inr more ↦ elim more [ inl y ↦ not_both t.krb_error error_numbers kind.KrbError octets x.1.0 error x.1.1 y.1 | inr y ↦ y.3 s ]
        ]
      ]

  -- ---- replies to a change of a password

  change_replies_or_none : (first second : List ℕ) (error : ProxyError) → AreChangeReplies t.ap_rep t.krb_priv t.krb_error first second
      → AreNoChangeReplies t.ap_rep t.krb_priv t.krb_error first second error → ⊥
  change_replies_or_none first second error (inl x) (inl y) = elim y.1 [
    | inl n ↦ not_both t.ap_rep ap_reply_numbers kind.ApRep first x.1.0 error x.1.1 n
    | inr n ↦ not_both t.krb_priv private_numbers kind.KrbPriv second x.2.0 error x.2.1 n.2
  ]
  change_replies_or_none first second error (inl x) (inr y) = omega (arith, x.0, ap length y.0)
  change_replies_or_none first second error (inr x) (inl y) = omega (arith, y.0, ap length x.0)
  change_replies_or_none first second error (inr x) (inr y) = not_both t.krb_error error_numbers kind.KrbError second x.1.0 error x.1.1 y.1

  change_reply_or_none : (octets : List ℕ) (error : ProxyError) → IsChangeReply t.ap_rep t.krb_priv t.krb_error octets
      → IsNoChangeReply t.ap_rep t.krb_priv t.krb_error octets error → ⊥
  change_reply_or_none octets error x (inl y) = y.1 x.0 x.1 x.2
  change_reply_or_none octets error x (inr y) =
      let same = one_frame direction.Reply octets x.0 x.1 y.0 y.1 x.2 y.2 in
      let first : AreChangeReplies t.ap_rep t.krb_priv t.krb_error y.0 x.1 = subst (λ (l : List ℕ). AreChangeReplies t.ap_rep t.krb_priv t.krb_error l x.1) same.0 x.3 in
      let both : AreChangeReplies t.ap_rep t.krb_priv t.krb_error y.0 y.1 = subst (λ (l : List ℕ). AreChangeReplies t.ap_rep t.krb_priv t.krb_error y.0 l) same.1 first in
      change_replies_or_none y.0 y.1 error both y.3

  -- ---- replies

  pub one_reply : (octets : List ℕ) (a b : Reply) → IsReply t octets a → IsReply t octets b → a ≡ b
  one_reply octets a b (inl x) (inl y) = x.1 ∙ sym y.1
  one_reply octets a b (inl x) (inr y) = absurd (y.0 x.0)
  one_reply octets a b (inr x) (inl y) = absurd (x.0 y.0)
  one_reply octets a b (inr x) (inr y) = one_kdc_reply octets a b x.1 y.1

  pub reply_or_none : (octets : List ℕ) (reply : Reply) (error : ProxyError) → IsReply t octets reply → IsNoReply t octets error → ⊥
  reply_or_none octets reply error (inl x) (inl y) = change_reply_or_none octets error x.2 y.1
  reply_or_none octets reply error (inl x) (inr y) = y.0 x.0
  reply_or_none octets reply error (inr x) (inl y) = x.0 y.0
  reply_or_none octets reply error (inr x) (inr y) = kdc_reply_or_none octets reply error x.1 y.1

  stream_or_none : (stream datagram : List ℕ) (reply : Reply) (error : ProxyError) → IsStreamReply t stream datagram reply → IsNoStreamReply t stream error → ⊥
  stream_or_none stream datagram reply error s (inl n) = prefixed_is stream datagram error s.prefix n
  stream_or_none stream datagram reply error s (inr n) =
      let same = one_prefixed stream datagram n.0 s.prefix n.1 in
      reply_or_none n.0 reply error (subst (λ (l : List ℕ). IsReply t l reply) same s.is_reply) n.2

  -- ---- what a client reads

  module _ (proxy : EncodingOf KdcProxyMessage) where
    held : (octets stream : List ℕ) (v : KdcProxyMessage) → Encodes proxy octets (holding stream) → Encodes proxy octets v → v.kerb_message ≡ stream
    held octets stream v e f = ap (λ (x : KdcProxyMessage). x.kerb_message) (one_value proxy octets v (holding stream) f e)

    pub same_reply : (stream datagram octets : List ℕ) (r : ProxyReply) (p : IsPosting proxy t stream datagram octets) → IsProxyReply proxy t octets r
        → (r.stream.now ≡ stream) × (r.datagram.now ≡ datagram) × (r.reply ≡ p.reply)
    same_reply stream datagram octets r p q =
        let same = held octets stream q.message p.encodes q.encodes in
        let prefix : IsPrefixed stream r.datagram.now = subst (λ (l : List ℕ). IsPrefixed l r.datagram.now) same q.sent.prefix in
        let one = one_prefixed stream r.datagram.now datagram prefix p.sent.prefix in
        (q.stream_is ∙ same, one, one_reply datagram r.reply p.reply (subst (λ (l : List ℕ). IsReply t l r.reply) one q.sent.is_reply) p.sent.is_reply)

    pub reply_is_read : (stream datagram octets : List ℕ) (error : ProxyError) → IsPosting proxy t stream datagram octets → IsNoProxyReply proxy t octets error → ⊥
    reply_is_read stream datagram octets error p (inl n) = n.2.none (holding stream) p.encodes
    reply_is_read stream datagram octets error p (inr n) =
        let same = held octets stream n.0 p.encodes n.1 in
        stream_or_none n.0.kerb_message datagram p.reply error (record {
          prefix = subst (λ (l : List ℕ). IsPrefixed l datagram) (sym same) p.sent.prefix;
          is_reply = p.sent.is_reply;
        }) n.2
