-- A token of IAKERB is not rejected, unless an allocation fails.
use Rattle.std.proofs.Common.{◌≡◌, ℕ, ◌-◌, ◌<◌, ◌^◌, ◌⊎◌, inl, inr, List, [], ◌∷◌, ◌++◌, length, take, drop, refl, sym, ap, subst, ◌∙◌, arith, rules, tests}
use Rattle.std.proofs.lemmas.List.{append_cancel_left, take_rest}
use Rattle.std.proofs.lemmas.Fmt.{decimal_digit}
use Rattle.krb_der_core.specs.declared.error.Asn1DerError.{Asn1DerError}
use Rattle.krb_der_core.specs.declared.error.Asn1DerError.TheVariants as errors
use Rattle.krb_der_core.specs.Reading.{Elements, TakesPrefix}
use Rattle.krb_der_core.specs.Tlv.{len, tlv}
use Rattle.krb_der_core.specs.TlvLaws.{same_prefixes, tlv_apart}
use Rattle.krb_der_core.specs.declared.der.DerEncode.{Ghosts as EncodingOf}
use Rattle.krb_der_core.specs.Encoding.{OneValue}
use Rattle.krb_der_core.specs.Errors.{OrMemory}
use Rattle.krb_der_x509.specs.ObjectIdentifier.{IsArcs, dotted, object_identifier, sub_identifier}
use Rattle.krb_gss_tokens.specs.declared.error.GssApiMessageError.{GssApiMessageError}
use Rattle.krb_gss_tokens.specs.declared.error.GssApiMessageError.TheVariants as gss
use Rattle.krb_gss_tokens.specs.Errors.{of_der}
use Rattle.krb_der_x509.specs.ObjectIdentifier.{arcs_content}
use Rattle.krb_der_x509.specs.ObjectIdentifierLaws.{arcs_one_content}
use Rattle.krb_der_core.specs.TlvLaws.{tagged_one_value}
use Rattle.krb_der.specs.Whole.{NoDevice}
use Rattle.krb_gss_tokens.specs.Header.{ContentReads, HeaderReads}
use Rattle.krb_gss_tokens.specs.declared.iakerb_header.messages.header.IAKerbHeader.{IAKerbHeader}
use Rattle.std.specs.Prelude.{IfSome}
use Rattle.std.specs.Str.{IsUtf8}
use Rattle.krb_der_core.specs.Encoding.{IsOctets}
use Rattle.krb_der_core.specs.BitString.{IsBits}
use Rattle.krb_der_core.specs.TlvLaws.{tlv_same}
use Rattle.krb_gss_tokens.proofs.Readings.{content_decides}
use Rattle.krb_gss_tokens.specs.declared.iakerb.IAKerbProxyMessage.{IAKerbProxyMessage}
use Rattle.krb_gss_tokens.specs.Proxy.{TrailingHeader, HeaderRejected, IAKerbRejected, NoHeader, ProxyIdRejected, ProxyReads, ProxyRejected, iakerb, proxy_id}
use Rattle.krb_gss_tokens.specs.ProxyLaws.{same_parts}
use Rattle.krb_gss_tokens.specs.Rejected.{MessageRejected}
use Rattle.krb_gss_tokens.specs.Token.{IsTokenId, token}
use Rattle.krb_gss_tokens.proofs.Errors.{trailing_fits, content_fits, prefix_memory, no_frame_error, no_id_error, no_mechanism_error, no_message_error, one_mechanism}

pub iakerb_octets : object_identifier iakerb ≡ 6 ∷ 6 ∷ 43 ∷ 6 ∷ 1 ∷ 5 ∷ 2 ∷ 5 ∷ []
unfolding tlv len sub_identifier
iakerb_octets = refl

pub iakerb_text : dotted iakerb ≡ 49 ∷ 46 ∷ 51 ∷ 46 ∷ 54 ∷ 46 ∷ 49 ∷ 46 ∷ 53 ∷ 46 ∷ 50 ∷ 46 ∷ 53 ∷ []
iakerb_text = rw (decimal_digit 1 (omega arith), decimal_digit 3 (omega arith), decimal_digit 6 (omega arith), decimal_digit 5 (omega arith), decimal_digit 2 (omega arith)) refl

-- ---- the header

pub header_reported : (h : EncodingOf IAKerbHeader) (content octets : List ℕ) (n : ℕ) (f : Asn1DerError) → TakesPrefix (tlv 48 content) n octets → NoDevice f
    → ((v : IAKerbHeader) → h.is_value v → ContentReads content v → f ≡ errors.OutOfMemory) → OrMemory (h.error 48 content) f → NoHeader h octets f
header_reported h content octets n f t device none first = record {
  content = content;
  trailing = drop n octets;
  prefix = t.prefix;
  no_device = device;
  none = λ v hv r. none v hv (subst (λ (l : List ℕ). ContentReads l v) (sym (tlv_same 48 48 content r.0 r.1)) r.2);
  first = first;
}

pub header_found : (content octets : List ℕ) (n : ℕ) (v : IAKerbHeader) → TakesPrefix (tlv 48 content) n octets → ContentReads content v → (b : List ℕ) × HeaderReads b v × (octets ≡ b ++ take (length octets - n) (drop n octets))
header_found content octets n v t r = (tlv 48 content, (content, refl, r), t.prefix ∙ ap (λ (l : List ℕ). tlv 48 content ++ l) (sym (take_rest octets n)))

pub no_header_error : (k : EncodingOf IAKerbHeader) (h : IAKerbHeader) (b trailing octets : List ℕ) (e : GssApiMessageError) → length octets < 2 ^ 64 → k.is_value h → HeaderReads b h → octets ≡ b ++ trailing → HeaderRejected k octets e → e ≡ gss.OutOfMemory
no_header_error k h b trailing octets e lt hv r q (f, t, inl x) =
    absurd (x.0 (prefix_memory (Elements 48) octets f x.1 b trailing (r.0, (trailing_fits b trailing octets lt q).0, r.1) q))
no_header_error k h b trailing octets e lt hv r q (f, t, inr x) =
    let s = tlv_apart 48 48 x.content r.0 x.trailing trailing (sym x.prefix ∙ q ∙ ap (λ (l : List ℕ). l ++ trailing) r.1) in
    t ∙ ap of_der (x.none h hv (subst (λ (l : List ℕ). HeaderReads l h) (r.1 ∙ ap (λ (l : List ℕ). tlv 48 l) (sym s.content)) r))

-- what follows a header
pub trailing_header : (h other : IAKerbHeader) (b c x y : List ℕ) → HeaderReads b h → HeaderReads c other → b ++ x ≡ c ++ y → (b ≡ c) × (x ≡ y)
trailing_header h other b c x y r s e =
    let t = tlv_apart 48 48 r.0 s.0 x y (ap (λ (l : List ℕ). l ++ x) (sym r.1) ∙ e ∙ ap (λ (l : List ℕ). l ++ y) s.1) in
    (r.1 ∙ ap (λ (l : List ℕ). tlv 48 l) t.content ∙ sym s.1, t.rest)

-- ---- the token

-- the arcs of IAKERB are some
pub iakerb_arcs : IsArcs iakerb
iakerb_arcs = search (rules, tests)

pub proxy_id_two : IsTokenId proxy_id
proxy_id_two = search (rules, tests)

module _ {A : Type 0} (kind : EncodingOf IAKerbHeader) (m : EncodingOf A) where
  module _ (h : IAKerbHeader) (hh : kind.is_value h) (v : A) (hv : m.is_value v) (e : GssApiMessageError) where
    at_header : (b octets : List ℕ) → length octets < 2 ^ 64 → HeaderReads b h → octets ≡ b ++ m.enc v → HeaderRejected kind octets e ⊎ TrailingHeader kind octets (λ last. MessageRejected m last e) → e ≡ gss.OutOfMemory
    at_header b octets lt r q (inl k) = no_header_error kind h b (m.enc v) octets e lt hh r q k
    at_header b octets lt r q (inr k) =
        let s = trailing_header k.0 h k.1 b k.2 (m.enc v) k.4 r (sym k.5 ∙ q) in
        no_message_error m v k.2 e (trailing_fits k.1 k.2 octets lt k.5).1 hv s.1 k.6

    at_id : (b trailing : List ℕ) → length trailing < 2 ^ 64 → HeaderReads b h → trailing ≡ proxy_id ++ (b ++ m.enc v)
        → ProxyIdRejected trailing e ⊎ ((octets : List ℕ) × (trailing ≡ proxy_id ++ octets) × (HeaderRejected kind octets e ⊎ TrailingHeader kind octets (λ last. MessageRejected m last e))) → e ≡ gss.OutOfMemory
    at_id b trailing lt r q (inl (inl k)) = absurd (no_id_error proxy_id (b ++ m.enc v) trailing e proxy_id_two q k)
    at_id b trailing lt r q (inl (inr k)) = absurd (k.4.0 (same_prefixes k.0 proxy_id k.1 (b ++ m.enc v) (k.2.two ∙ sym proxy_id_two.two) (sym k.3 ∙ q)).0)
    at_id b trailing lt r q (inr k) = at_header b k.0 (trailing_fits proxy_id k.0 trailing lt k.1).1 r (append_cancel_left proxy_id k.0 (b ++ m.enc v) (sym k.1 ∙ q)) k.2

    at_mechanism : (b content : List ℕ) → length content < 2 ^ 64 → HeaderReads b h → content ≡ object_identifier iakerb ++ (proxy_id ++ (b ++ m.enc v))
        → IAKerbRejected content e ⊎ ((trailing : List ℕ) × (content ≡ object_identifier iakerb ++ trailing) × (ProxyIdRejected trailing e ⊎ ((octets : List ℕ) × (trailing ≡ proxy_id ++ octets) × (HeaderRejected kind octets e ⊎ TrailingHeader kind octets (λ last. MessageRejected m last e))))) → e ≡ gss.OutOfMemory
    at_mechanism b content lt r q (inl (inl k)) = no_mechanism_error iakerb (proxy_id ++ (b ++ m.enc v)) content e lt iakerb_arcs q k
    at_mechanism b content lt r q (inl (inr k)) =
        let s = one_mechanism k.0 iakerb k.1 (proxy_id ++ (b ++ m.enc v)) (sym k.3 ∙ q) in
        absurd (k.4.0 (tagged_one_value 6 IsArcs arcs_content arcs_one_content k.0 iakerb k.2 iakerb_arcs s.0))
    at_mechanism b content lt r q (inr k) = at_id b k.0 (trailing_fits (object_identifier iakerb) k.0 content lt k.1).1 r (append_cancel_left (object_identifier iakerb) k.0 (proxy_id ++ (b ++ m.enc v)) (sym k.1 ∙ q)) k.2

    pub no_rejection : (input content rest : List ℕ) → length input < 2 ^ 64 → input ≡ token content ++ rest → ProxyReads m.enc content h v → ProxyRejected kind m input e → e ≡ gss.OutOfMemory
    no_rejection input content rest lt q p (inl k) = no_frame_error content rest input e lt q k
    no_rejection input content rest lt q p (inr k) =
        let s = tlv_apart 96 96 k.0 content k.1 rest (sym k.2 ∙ q) in
        at_mechanism p.octets k.0 (content_fits k.0 k.1 input lt k.2) p.reads (s.content ∙ p.fields) k.3

-- a token is read as one header and one message
pub one_proxy : {A : Type 0} (is_header : IAKerbHeader → Type 0) (is_value : A → Type 0) (enc : A → List ℕ) → OneValue is_value enc
    → ((b : List ℕ) (v w : IAKerbHeader) → is_header v → is_header w → HeaderReads b v → HeaderReads b w → v ≡ w)
    → (input c d x y : List ℕ) (h k : IAKerbHeader) (v w : A) → is_header h → is_header k → is_value v → is_value w → input ≡ token c ++ x → input ≡ token d ++ y → ProxyReads enc c h v → ProxyReads enc d k w
    → ◌≡◌ {A = IAKerbProxyMessage A} (record { header = h; krb_msg = v }) (record { header = k; krb_msg = w })
one_proxy {A} is_header is_value enc one one_header input c d x y h k v w hh hk hv hw p q r s =
    let t = tlv_apart 96 96 c d x y (sym p ∙ q) in
    let a = append_cancel_left (object_identifier iakerb) (proxy_id ++ (r.octets ++ enc v)) (proxy_id ++ (s.octets ++ enc w)) (sym r.fields ∙ t.content ∙ s.fields) in
    let b = append_cancel_left proxy_id (r.octets ++ enc v) (s.octets ++ enc w) a in
    let u = trailing_header h k r.octets s.octets (enc v) (enc w) r.reads s.reads b in
    same_parts (record { header = h; krb_msg = v }) (record { header = k; krb_msg = w }) (one_header s.octets h k hh hk (subst (λ (l : List ℕ). HeaderReads l h) u.0 r.reads) s.reads) (one v w hv hw u.1)

pub proxy_found : {A : Type 0} (enc : A → List ℕ) (content trailing rest b message : List ℕ) (h : IAKerbHeader) (v : A) → content ≡ object_identifier iakerb ++ trailing → trailing ≡ proxy_id ++ rest → HeaderReads b h → rest ≡ b ++ message → message ≡ enc v → ProxyReads enc content h v
proxy_found enc content trailing rest b message h v p q r s t = record {
  octets = b;
  reads = r;
  fields = p ∙ ap (λ (l : List ℕ). object_identifier iakerb ++ l) (q ∙ ap (λ (l : List ℕ). proxy_id ++ l) (s ∙ ap (λ (l : List ℕ). b ++ l) t));
}

-- the values of a header's type
abbrev pub IsHeader : IAKerbHeader → Type 0
IsHeader h = IsUtf8 h.target_realm × IfSome h.cookie.0 IsOctets × IfSome h.flags.0 IsBits

-- octets are read as one header at most
pub one_header : (b : List ℕ) (v w : IAKerbHeader) → IsHeader v → IsHeader w → HeaderReads b v → HeaderReads b w → v ≡ w
one_header b v w hv hw r s = content_decides r.0 s.0 v w hv.1 hw.1 hv.2 hw.2 r.2 s.2 (tlv_same 48 48 r.0 s.0 (sym r.1 ∙ s.1))
