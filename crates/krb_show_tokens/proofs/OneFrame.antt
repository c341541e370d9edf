-- A token has one mechanism, and one rest behind it.
use Rattle.std.proofs.Common.{◌≡◌, ℕ, ◌<◌, ◌≤◌, List, [], ◌∷◌, ◌++◌, Option, Some, None, drop, length, slice_index_or, ap, sym, ◌∙◌, refl, arith, subst}
use Rattle.std.specs.Prelude.{MatchOption}
use Rattle.krb_der_core.specs.Reading.{TakesPrefix}
use Rattle.krb_der_core.specs.TlvLaws.{tlv_apart}
use Rattle.krb_der_x509.specs.ObjectIdentifier.{arcs_content, object_identifier}
use Rattle.krb_der_x509.specs.ObjectIdentifierLaws.{arcs_one_content}
use Rattle.krb_gss_tokens.specs.Token.{token}
use Rattle.krb_gss_tokens.specs.Mic.{Mic, MicIs}
use Rattle.krb_gss_tokens.specs.PerMessageRejected.{MicFirstError, WrapFirstError}
use Rattle.krb_gss_tokens.specs.Wrap.{Wrap, WrapIs}
use Rattle.krb_gss_tokens.specs.declared.error.GssApiMessageError.TheVariants as gss
use Rattle.krb_show_tokens.specs.declared.heads.Head.{Head}
use Rattle.krb_show_tokens.specs.declared.heads.Head.TheVariants as heads
use Rattle.krb_show_tokens.specs.Frames.{HasId, HasNone, IsContent, IsFramed, IsNegotiation, spnego}
use Rattle.krb_show_tokens.specs.Heads.{IsHead}

pub one_frame : (m n x y octets : List ℕ) → IsFramed m x octets → IsFramed n y octets → (m ≡ n) × (x ≡ y)
one_frame m n x y octets f g =
    let s = tlv_apart 96 96 (object_identifier m ++ x) (object_identifier n ++ y) f.trailing g.trailing (sym f.parts ∙ g.parts) in
    let t = tlv_apart 6 6 (arcs_content m) (arcs_content n) x y s.content in
    (arcs_one_content m n f.arcs g.arcs t.content, t.rest)

-- what is said of none, where there is none
pub of_none : {A : Type 0} (o : Option A) (N : Type 0) (S : A → Type 0) → MatchOption o N S → o ≡ None → N
of_none None N S h e = h
of_none (Some v) N S h e = cc

-- ---- the frame and its content

pub framed_content : (mechanism inner content octets : List ℕ) (taken : ℕ) → TakesPrefix (token content) taken octets → IsContent mechanism inner content
    → IsFramed mechanism inner octets
framed_content mechanism inner content octets taken p c =
    record { arcs = c.arcs; trailing = drop taken octets; parts = p.prefix ∙ ap (λ (l : List ℕ). token l ++ drop taken octets) c.parts }

pub content_framed : (mechanism inner content octets : List ℕ) (taken : ℕ) → TakesPrefix (token content) taken octets → IsFramed mechanism inner octets
    → IsContent mechanism inner content
content_framed mechanism inner content octets taken p f =
    let s = tlv_apart 96 96 content (object_identifier mechanism ++ inner) (drop taken octets) f.trailing (sym p.prefix ∙ f.parts) in
    record { arcs = f.arcs; parts = s.content }

-- ---- heads

pub head_negotiation : (mechanism inner octets : List ℕ) → IsFramed mechanism inner octets → mechanism ≡ spnego → IsHead octets heads.Negotiation
head_negotiation m inner octets f e = (
  λ first second h. h.2 ((one_frame h.0 m (first ∷ second ∷ h.1) inner octets h.3 f).0 ∙ e),
  λ h. h.no_negotiation (inner, subst (λ (l : List ℕ). IsFramed l inner octets) e f),
)

not_negotiation : (m inner octets : List ℕ) → IsFramed m inner octets → (m ≡ spnego → ⊥) → IsNegotiation octets → ⊥
not_negotiation m inner octets f not h = not ((one_frame m spnego inner h.0 octets f h.1).0)

pub head_short : (mechanism inner octets : List ℕ) → IsFramed mechanism inner octets → (mechanism ≡ spnego → ⊥) → length inner < 2 → IsHead octets heads.Unknown
head_short m inner octets f not short = (
  not_negotiation m inner octets f not,
  λ first second h. omega (arith, short, ap length (one_frame m h.0 inner (first ∷ second ∷ h.1) octets f h.3).1),
)

pub head_none : (octets : List ℕ) → ((mechanism inner : List ℕ) → IsFramed mechanism inner octets → ⊥) → IsHead octets heads.Unknown
head_none octets none = (λ h. none spnego h.0 h.1, λ first second h. none h.0 (first ∷ second ∷ h.1) h.3)

head_id : (m : List ℕ) (a b : ℕ) (rest octets : List ℕ) → IsFramed m (a ∷ b ∷ rest) octets → (m ≡ spnego → ⊥) → IsHead octets (heads.Kerberos a b)
head_id m a b rest octets f not = (
  not_negotiation m (a ∷ b ∷ rest) octets f not,
  λ first second h. (let e = (one_frame m h.0 (a ∷ b ∷ rest) (first ∷ second ∷ h.1) octets f h.3).1 in (cc, cc)),
  λ h. h.no_id a b (m, rest, not, f),
)

pub head_kerberos : (mechanism inner octets : List ℕ) → IsFramed mechanism inner octets → (mechanism ≡ spnego → ⊥) → 2 ≤ length inner
    → IsHead octets (heads.Kerberos (slice_index_or inner 0 0) (slice_index_or inner 1 0))
head_kerberos m [] octets f not long = omega (arith, long)
head_kerberos m (a ∷ []) octets f not long = omega (arith, long)
head_kerberos m (a ∷ b ∷ rest) octets f not long = head_id m a b rest octets f not

only_all : (octets : List ℕ) (head : Head) → IsHead octets head
    → (IsNegotiation octets → head ≡ heads.Negotiation) × ((first second : ℕ) → HasId first second octets → head ≡ heads.Kerberos first second)
    × (HasNone octets → head ≡ heads.Unknown)
only_all octets heads.Negotiation k = (λ h. refl, λ first second h. absurd (k.0 first second h), λ h. absurd (k.1 h))
only_all octets (heads.Kerberos a b) k = (
  λ h. absurd (k.0 h),
  λ first second h. (let e = k.1 first second h in ap (λ (n : ℕ). heads.Kerberos n b) e.0 ∙ ap (λ (n : ℕ). heads.Kerberos first n) e.1),
  λ h. absurd (k.2 h),
)
only_all octets heads.Unknown k = (λ h. absurd (k.0 h), λ first second h. absurd (k.1 first second h), λ h. refl)

pub only_negotiation : (octets : List ℕ) (head : Head) → IsHead octets head → IsNegotiation octets → head ≡ heads.Negotiation
only_negotiation octets head k = (only_all octets head k).0

pub only_kerberos : (octets : List ℕ) (head : Head) (first second : ℕ) → IsHead octets head → HasId first second octets → head ≡ heads.Kerberos first second
only_kerberos octets head first second k = (only_all octets head k).1 first second

pub only_unknown : (octets : List ℕ) (head : Head) → IsHead octets head → HasNone octets → head ≡ heads.Unknown
only_unknown octets head k = (only_all octets head k).2

-- ---- memory behind a whole header

pub mic_memory : (octets : List ℕ) (t : Mic) → MicIs octets t → MicFirstError octets gss.OutOfMemory
mic_memory octets t h = (t.flags, t.seq_num, (t.checksum, h.0))

pub wrap_memory : (octets : List ℕ) (t : Wrap) → WrapIs octets t → WrapFirstError octets gss.OutOfMemory
wrap_memory octets t h = (t.flags, t.ec, t.rrc, t.seq_num, (t.checksum, h.0))

-- ---- token ids

pub same_ids : (head : Head) (a b first second : ℕ) → head ≡ heads.Kerberos a b → head ≡ heads.Kerberos first second → (a ≡ first) × (b ≡ second)
same_ids head a b first second e f = (cc, cc)
