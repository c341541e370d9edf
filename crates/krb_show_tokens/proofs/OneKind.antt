-- A token is of one kind, and one message is in its frame.
use Rattle.std.proofs.Common.{◌≡◌, ℕ, ◌<◌, List, [], ◌∷◌, Bool, true, false, length, ap, sym, ◌∙◌, refl, arith, inl, inr, subst}
use Rattle.std.proofs.lemmas.Bool.{eqb-true, true≢false}
use Rattle.std.specs.Prelude.{◌&&◌, nat_eq, Result, Err, Vec, slice_index}
use Rattle.std.specs.declared.alloc.Global.{Global}
use Rattle.krb_gss_tokens.specs.declared.error.GssApiMessageError.{GssApiMessageError}
use Rattle.krb_gss_tokens.specs.declared.error.GssApiMessageError.TheVariants as gss
use Rattle.krb_show.specs.Tokens.{Token}
use Rattle.krb_show_tokens.proofs.OneFrame.{only_kerberos, only_negotiation, only_unknown}
use Rattle.krb_show_tokens.proofs.OneMessage.{not_true}
use Rattle.krb_show_tokens.specs.declared.heads.Head.{Head}
use Rattle.krb_show_tokens.specs.declared.tokens.Framed.{Framed}
use Rattle.krb_show_tokens.specs.declared.tokens.Framed.TheVariants as message
use Rattle.krb_show_tokens.specs.declared.tokens.TokenKind.{TokenKind}
use Rattle.krb_show_tokens.specs.declared.tokens.TokenKind.TheVariants as kind
use Rattle.krb_show_tokens.specs.Frames.{HasId, HasNone, IsNegotiation, RefusesId, is_known_id, is_token}
use Rattle.krb_show_tokens.specs.Heads.{IsHead}
use Rattle.krb_show_tokens.specs.Kinds.{ByKind, are, framed_of, kind_of, kind_of_first, message_of, tells_of_frame, tells_of_framed, tells_of_kind}
use Rattle.krb_show_tokens.specs.Told.{IsToldOf}

-- ---- first octets

kind_of_some : (first : ℕ) (rest : List ℕ) → kind_of (first ∷ rest) ≡ kind_of_first first
kind_of_some first rest =
    rw (not_true (nat_eq (length (first ∷ rest)) 0) (λ e. omega (arith, eqb-true (length (first ∷ rest)) 0 e))) refl

pub kind_named : (octets : List ℕ) (t : ℕ) → is_token t ≡ true → slice_index octets 0 ≡ t → kind_of octets ≡ kind_of_first t
kind_named [] t known e = absurd (true≢false (sym known ∙ ap is_token (sym e)))
kind_named (first ∷ rest) t known e = kind_of_some first rest ∙ ap kind_of_first e

unlike_first : (u t : ℕ) → is_token u ≡ false → is_token t ≡ true → nat_eq u t ≡ false
unlike_first u t other known = not_true (nat_eq u t) (λ e. true≢false (sym known ∙ ap is_token (sym (eqb-true u t e)) ∙ other))

first_unknown : (u : ℕ) → is_token u ≡ false → kind_of_first u ≡ kind.Unknown
first_unknown u h = rw (unlike_first u 4 h refl, unlike_first u 5 h refl, unlike_first u 96 h refl, unlike_first u 160 h refl, unlike_first u 161 h refl) refl

pub kind_unknown : (octets : List ℕ) → 0 < length octets → is_token (slice_index octets 0) ≡ false → kind_of octets ≡ kind.Unknown
kind_unknown [] long h = absurd (omega (arith, long))
kind_unknown (first ∷ rest) long h = kind_of_some first rest ∙ first_unknown first h

-- ---- token ids

both : (a b : Bool) → (a && b) ≡ true → (a ≡ true) × (b ≡ true)
both true b e = (refl, e)
both false b e = absurd (true≢false (sym e))

unlike_id : (first second a b : ℕ) → is_known_id first second ≡ false → is_known_id a b ≡ true → are first second a b ≡ false
unlike_id first second a b other known = not_true (are first second a b) (λ e.
    let p = both (nat_eq first a) (nat_eq second b) e in
    let o = subst (λ (n : ℕ). is_known_id n second ≡ false) (eqb-true first a p.0) other in
    true≢false (sym known ∙ subst (λ (n : ℕ). is_known_id a n ≡ false) (eqb-true second b p.1) o))

message_unknown : (first second : ℕ) → is_known_id first second ≡ false → message_of first second ≡ message.UnknownId first second
message_unknown first second h = rw (
  unlike_id first second 1 0 h refl,
  unlike_id first second 2 0 h refl,
  unlike_id first second 3 0 h refl,
  unlike_id first second 4 0 h refl,
  unlike_id first second 4 1 h refl,
  unlike_id first second 5 0 h refl,
  unlike_id first second 5 1 h refl,
  unlike_id first second 6 0 h refl,
) refl

-- ---- what is told

-- where memory is wanting nothing but that is told
pub memory_told : {A P : Type 0} {is_of : List ℕ → A → Type 0} {rejected : List ℕ → GssApiMessageError → Type 0}
    {shows : A → List Token → List Token → Type 0} {tokens : P → List Token} {octets : List ℕ}
    → rejected octets gss.OutOfMemory → IsToldOf is_of rejected shows tokens octets (Err gss.OutOfMemory)
memory_told r = record { found = tt; reads = λ v k. refl; first_error = r }

module _ (by : ByKind) (octets : List ℕ) (result : Result (Vec Token Global) GssApiMessageError) where
  pub kind_told : (k m : TokenKind) → tells_of_kind by k octets result → k ≡ m → tells_of_kind by m octets result
  kind_told k m t e = subst (λ (n : TokenKind). tells_of_kind by n octets result) e t

  -- of a token that begins with this octet
  pub first_told : (k : TokenKind) → tells_of_kind by k octets result → k ≡ kind_of octets
      → (first : ℕ) → is_token first ≡ true → slice_index octets 0 ≡ first → tells_of_kind by (kind_of_first first) octets result
  first_told k t e first known is = kind_told k (kind_of_first first) t (e ∙ kind_named octets first known is)

  head_told : (f : Framed) → ((head : Head) → IsHead octets head → framed_of head ≡ f) → tells_of_framed by f octets (Err gss.OutOfMemory)
      → tells_of_frame by octets result → tells_of_framed by f octets result
  head_told f named memory (inl e) = subst (λ (r : Result (Vec Token Global) GssApiMessageError). tells_of_framed by f octets r) (sym e) memory
  head_told f named memory (inr h) = subst (λ (g : Framed). tells_of_framed by g octets result) (named h.0 h.1) h.2

  refused : (first second : ℕ) → HasId first second octets → is_known_id first second ≡ false → tells_of_frame by octets result
      → RefusesId first second result
  refused first second h other (inl e) = subst (λ (r : Result (Vec Token Global) GssApiMessageError). RefusesId first second r) (sym e) (inl refl)
  refused first second h other (inr k) =
      let named = ap framed_of (only_kerberos octets k.0 first second k.1 h) ∙ message_unknown first second other in
      let is = subst (λ (g : Framed). tells_of_framed by g octets result) named k.2 in
      subst (λ (r : Result (Vec Token Global) GssApiMessageError). RefusesId first second r) (sym is) (inr refl)

  -- of a token in a frame
  module _ (k : TokenKind) (told : tells_of_kind by k octets result) (is : k ≡ kind_of octets) (framed : slice_index octets 0 ≡ 96) where
    frame_told : tells_of_frame by octets result
    frame_told = first_told k told is 96 refl framed

    pub negotiation_told : IsNegotiation octets → by.negotiation octets (Err gss.OutOfMemory) → by.negotiation octets result
    negotiation_told h memory = head_told message.Negotiation (λ head i. ap framed_of (only_negotiation octets head i h)) memory frame_told

    pub none_told : HasNone octets → by.ap_req octets (Err gss.OutOfMemory) → by.ap_req octets result
    none_told h memory = head_told message.ApReq (λ head i. ap framed_of (only_unknown octets head i h)) memory frame_told

    pub id_told : (first second : ℕ) → HasId first second octets
        → tells_of_framed by (message_of first second) octets (Err gss.OutOfMemory) → tells_of_framed by (message_of first second) octets result
    id_told first second h memory =
        head_told (message_of first second) (λ head i. ap framed_of (only_kerberos octets head first second i h)) memory frame_told

    pub id_refused : (first second : ℕ) → HasId first second octets → is_known_id first second ≡ false → RefusesId first second result
    id_refused first second h other = refused first second h other frame_told
