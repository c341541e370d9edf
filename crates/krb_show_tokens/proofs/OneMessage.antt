-- Messages of IAKERB have one tag, and are read from their one encoding.
use Rattle.std.proofs.Common.{◌≡◌, ℕ, List, [], ◌∷◌, ◌++◌, Option, Some, None, Bool, true, false, length, slice_index_or, ap, sym, ◌∙◌, refl, arith, subst}
use Rattle.std.proofs.lemmas.Bool.{eqb-true, true≢false}
use Rattle.std.proofs.lemmas.Fmt.{decimal_digit}
use Rattle.std.proofs.lemmas.List.{append-nil}
use Rattle.std.specs.Cmp.Lexicographic.{bytes_decides, pointwise}
use Rattle.std.specs.Prelude.{MatchOption, Result, Vec, nat_eq, not}
use Rattle.std.specs.declared.alloc.Global.{Global}
use Rattle.krb_der_core.specs.Tlv.{len, tlv}
use Rattle.krb_der_core.specs.TlvLaws.{same_heads, tlv_apart}
use Rattle.krb_der_x509.specs.ObjectIdentifier.{dotted, object_identifier}
use Rattle.krb_gss_tokens.specs.Proxy.{ProxyReads, iakerb, proxy_id}
use Rattle.krb_gss_tokens.specs.Token.{in_token}
use Rattle.krb_gss_tokens.specs.declared.error.GssApiMessageError.{GssApiMessageError}
use Rattle.krb_show.specs.Tokens.{Token}
use Rattle.krb_gss_tokens.proofs.Readings.{content_written}
use Rattle.krb_gss_tokens.specs.declared.iakerb_header.messages.header.IAKerbHeader.{IAKerbHeader}
use Rattle.krb_gss_tokens.specs.Header.{cookie, flags, realm}
use Rattle.krb_show_tokens.proofs.OneFrame.{one_frame}
use Rattle.krb_show_tokens.specs.Frames.{IsFramed}
use Rattle.krb_show_tokens.specs.declared.proxies.Proxied.{Proxied}
use Rattle.krb_show_tokens.specs.declared.proxies.Proxied.TheVariants as proxied
use Rattle.krb_show_tokens.specs.Proxied.{ByMessage, proxied_of, tells_of_message}
use Rattle.krb_show_tokens.specs.Proxies.{HasMessage, HasOther, IsTag, is_proxied, is_proxied_tag}

pub iakerb_text : dotted iakerb ≡ 49 ∷ 46 ∷ 51 ∷ 46 ∷ 54 ∷ 46 ∷ 49 ∷ 46 ∷ 53 ∷ 46 ∷ 50 ∷ 46 ∷ 53 ∷ []
iakerb_text = rw (decimal_digit 1 (omega arith), decimal_digit 3 (omega arith), decimal_digit 6 (omega arith), decimal_digit 5 (omega arith), decimal_digit 2 (omega arith)) refl

-- ---- one tag

same_behind : (a b c d : ℕ) (x y : List ℕ) → a ∷ b ∷ x ≡ c ∷ d ∷ y → x ≡ y
same_behind a b c d x y e = (same_heads b d x y (same_heads a c (b ∷ x) (d ∷ y) e).1).1

pub one_message : (octets : List ℕ) (t u : ℕ) → HasMessage t octets → HasMessage u octets → t ≡ u
one_message octets t u f g =
    let inner = (one_frame f.mechanism g.mechanism (f.first ∷ f.second ∷ (tlv 48 f.header ++ t ∷ f.rest)) (g.first ∷ g.second ∷ (tlv 48 g.header ++ u ∷ g.rest)) octets f.framed g.framed).1 in
    let behind = same_behind f.first f.second g.first g.second (tlv 48 f.header ++ t ∷ f.rest) (tlv 48 g.header ++ u ∷ g.rest) inner in
    (same_heads t u f.rest g.rest (tlv_apart 48 48 f.header g.header (t ∷ f.rest) (u ∷ g.rest) behind).rest).0

pub only_tag : (octets : List ℕ) (tag : Option ℕ) (t : ℕ) → IsTag octets tag → HasMessage t octets → tag ≡ Some t
only_tag octets None t k h = absurd (k t h)
only_tag octets (Some u) t k h = ap (λ (n : ℕ). Some n) (one_message octets u t k h)

pub not_true : (b : Bool) → (b ≡ true → ⊥) → b ≡ false
not_true true n = absurd (n refl)
not_true false n = refl

pub other_tag : (octets : List ℕ) (tag : Option ℕ) → IsTag octets tag → HasOther octets → is_proxied_tag tag ≡ false
other_tag octets None k h = refl
other_tag octets (Some u) k h = not_true (is_proxied u) (λ e. h u e k)

-- a tag that names a message, and one that names none
unlike : (u t : ℕ) → is_proxied u ≡ false → is_proxied t ≡ true → nat_eq u t ≡ false
unlike u t other known = not_true (nat_eq u t) (λ e. true≢false (sym known ∙ ap is_proxied (sym (eqb-true u t e)) ∙ other))

pub other_proxied : (tag : Option ℕ) → is_proxied_tag tag ≡ false → proxied_of tag ≡ proxied.AsReq
other_proxied None h = refl
other_proxied (Some u) h =
    rw (unlike u 107 h refl, unlike u 108 h refl, unlike u 109 h refl, unlike u 110 h refl, unlike u 111 h refl, unlike u 126 h refl) refl

pub message_told : (by : ByMessage) (octets : List ℕ) (result : Result (Vec Token Global) GssApiMessageError) (m n : Proxied)
    → tells_of_message by m octets result → m ≡ n → tells_of_message by n octets result
message_told by octets result m n t e = subst (λ (p : Proxied). tells_of_message by p octets result) e t

-- ---- one encoding

abbrev pub header_octets : IAKerbHeader → List ℕ
header_octets h = tlv 48 (realm h ++ cookie h ++ flags h)

abbrev pub proxy_content : {A : Type 0} → (A → List ℕ) → IAKerbHeader → A → List ℕ
proxy_content enc h v = object_identifier iakerb ++ (proxy_id ++ (header_octets h ++ enc v))

pub in_token_is : (c : List ℕ) → in_token (tlv 48 c) ≡ tlv 96 c ++ []
unfolding tlv
in_token_is c = sym (append-nil (96 ∷ len (length c) ++ c))

pub proxy_written : {A : Type 0} (enc : A → List ℕ) (h : IAKerbHeader) (v : A) → ProxyReads enc (proxy_content enc h v) h v
proxy_written enc h v = record {
  octets = header_octets h;
  reads = (realm h ++ cookie h ++ flags h, refl, content_written h);
  fields = refl;
}

-- octets that were compared, and found to differ
pub differing : (x y : List ℕ) → true ≡ not (pointwise nat_eq x y) → x ≡ y → ⊥
differing x y tested same = true≢false (tested ∙ ap not ((bytes_decides x y).1 same))

-- ---- behind a header

pub no_tag : (inner behind message : List ℕ) (a b : ℕ) (h : List ℕ) → inner ≡ a ∷ b ∷ behind → behind ≡ tlv 48 h ++ message → true ≡ nat_eq (length message) 0
    → (first second tag : ℕ) (header rest : List ℕ) → inner ≡ first ∷ second ∷ (tlv 48 header ++ tag ∷ rest) → ⊥
no_tag inner behind message a b h e f n first second tag header rest q =
    let s = same_behind a b first second behind (tlv 48 header ++ tag ∷ rest) (sym e ∙ q) in
    let t = (tlv_apart 48 48 h header message (tag ∷ rest) (sym f ∙ s)).rest in
    omega (arith, eqb-true (length message) 0 (sym n), ap length t)

pub some_tag : (inner behind message : List ℕ) (a b : ℕ) (h : List ℕ) → inner ≡ a ∷ b ∷ behind → behind ≡ tlv 48 h ++ message → false ≡ nat_eq (length message) 0
    → (x : ℕ) × (y : ℕ) × (header : List ℕ) × (rest : List ℕ) × (inner ≡ x ∷ y ∷ (tlv 48 header ++ slice_index_or message 0 0 ∷ rest))
some_tag inner behind [] a b h e f n = absurd (true≢false (sym n))
some_tag inner behind (t ∷ r) a b h e f n = (a, b, h, r, e ∙ ap (λ (l : List ℕ). a ∷ b ∷ l) f)

pub tag_in_frame : (mechanism inner octets : List ℕ) (tag : Option ℕ) → IsFramed mechanism inner octets
    → MatchOption tag ((first second t : ℕ) (header rest : List ℕ) → inner ≡ first ∷ second ∷ (tlv 48 header ++ t ∷ rest) → ⊥)
    (λ t. (first : ℕ) × (second : ℕ) × (header : List ℕ) × (rest : List ℕ) × (inner ≡ first ∷ second ∷ (tlv 48 header ++ t ∷ rest)))
    → IsTag octets tag
tag_in_frame m inner octets None f k =
    λ t h. k h.first h.second t h.header h.rest (one_frame m h.mechanism inner (h.first ∷ h.second ∷ (tlv 48 h.header ++ t ∷ h.rest)) octets f h.framed).1
tag_in_frame m inner octets (Some t) f k =
    record { mechanism = m; first = k.0; second = k.1; header = k.2; rest = k.3; framed = subst (λ (l : List ℕ). IsFramed m l octets) k.4 f }

-- what is no token has no tag
pub tag_of_none : (octets : List ℕ) → ((mechanism inner : List ℕ) → IsFramed mechanism inner octets → ⊥) → IsTag octets None
tag_of_none octets none = λ t h. none h.mechanism (h.first ∷ h.second ∷ (tlv 48 h.header ++ t ∷ h.rest)) h.framed
