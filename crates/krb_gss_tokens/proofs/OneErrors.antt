-- Where a token has an error of DER, it has no other first error.
use Rattle.std.proofs.Common.{◌≡◌, ℕ, ◌<◌, ◌^◌, ◌⊎◌, inl, inr, eqb, List, ◌++◌, length, refl, sym, ap, subst, ◌∙◌}
use Rattle.std.specs.declared.io.Error.{Error}
use Rattle.std.proofs.lemmas.List.{append_cancel_left}
use Rattle.krb_der_core.specs.declared.error.Asn1DerError.{Asn1DerError}
use Rattle.krb_der_core.specs.declared.error.Asn1DerError.TheVariants as errors
use Rattle.krb_der_core.specs.declared.der.DerEncode.{Ghosts as EncodingOf}
use Rattle.krb_der_core.specs.Tlv.{tlv}
use Rattle.krb_der_core.specs.TlvLaws.{same_prefixes, tagged_element, tagged_one_value, tlv_apart, tlv_same}
use Rattle.krb_der_core.specs.Errors.{PrefixError, PrefixLaws, HeaderError, OrMemory, TaggedError}
use Rattle.krb_der_core.specs.ErrorLaws.{content_fits as content_short, prefix_laws, tagged_laws}
use Rattle.krb_der_core.specs.Reading.{Elements, Encodings}
use Rattle.krb_der_x509.specs.ObjectIdentifier.{IsArcs, arcs_content, object_identifier}
use Rattle.krb_der_x509.specs.ObjectIdentifierErrors.{ArcsError, arcs_laws}
use Rattle.krb_der_x509.specs.ObjectIdentifierLaws.{arcs_one_content}
use Rattle.krb_gss_tokens.specs.declared.iakerb_header.messages.header.IAKerbHeader.{IAKerbHeader}
use Rattle.krb_gss_tokens.specs.declared.error.GssApiMessageError.{GssApiMessageError}
use Rattle.krb_gss_tokens.specs.declared.error.GssApiMessageError.TheVariants as gss
use Rattle.krb_gss_tokens.specs.Errors.{of_der}
use Rattle.krb_gss_tokens.specs.Rejected.{TrailingId, TrailingMechanism, ElementRejected, FrameRejected, PrefixRejected, IdRejected, InToken, KrbMessageRejected, MechanismRejected, MessageRejected, ReportsOneError}
use Rattle.krb_gss_tokens.specs.Proxy.{TrailingHeader, HeaderRejected, IAKerbRejected, ProxyIdRejected, ProxyRejected, iakerb, proxy_id}
use Rattle.krb_gss_tokens.proofs.Errors.{trailing_fits, content_fits, prefix_memory, no_frame_error, no_prefix_error, no_id_error, no_mechanism_error, one_mechanism}
use Rattle.krb_gss_tokens.proofs.Proxies.{trailing_header, iakerb_arcs, no_header_error, proxy_id_two}

-- no other error than this error, unless an allocation fails
abbrev Reported : Asn1DerError → GssApiMessageError → Type 0
Reported f e = (e ≡ gss.OutOfMemory) ⊎ (e ≡ gss.Asn1Error f)

no_memory : (f : Asn1DerError) → gss.Asn1Error f ≡ gss.OutOfMemory → ⊥
no_memory f p = cc

no_io : (f : Asn1DerError) (x : Error) → gss.Asn1Error f ≡ gss.IoError x → ⊥
no_io f x p = cc

no_id : (f : Asn1DerError) (x y : List ℕ) → gss.Asn1Error f ≡ gss.InvalidId x y → ⊥
no_id f x y p = cc

-- ---- errors of DER

of_memory : (f x : Asn1DerError) → gss.Asn1Error f ≡ of_der x → x ≡ errors.OutOfMemory → ⊥
of_memory f x p m = no_memory f (p ∙ ap of_der m)

one_of : (error : Asn1DerError → Type 0) (f x y : Asn1DerError) (e : GssApiMessageError) → ((c d : Asn1DerError) → error c → error d → c ≡ d) → gss.Asn1Error f ≡ of_der x → e ≡ of_der y → OrMemory error x → OrMemory error y → Reported f e
one_of error f x y e one p q (inl m) s = absurd (of_memory f x p m)
one_of error f x y e one p q (inr r) (inl m) = inl (q ∙ ap of_der m)
one_of error f x y e one p q (inr r) (inr s) = inr (q ∙ ap of_der (one y x s r) ∙ sym p)

one_prefix : (P : List ℕ → Type 0) (error : List ℕ → Asn1DerError → Type 0) (octets : List ℕ) (f : Asn1DerError) (e : GssApiMessageError) → ((c d : Asn1DerError) → error octets c → error octets d → c ≡ d)
    → PrefixRejected P error octets (gss.Asn1Error f) → PrefixRejected P error octets e → Reported f e
one_prefix P error octets f e one r s = one_of (error octets) f r.0 s.0 e one r.1 s.1 r.3 s.3

element_laws : (tag : ℕ) → PrefixLaws (λ (c : List ℕ). Unit {0}) (λ c. tlv tag c) (λ v rest. Unit {0}) (HeaderError tag)
element_laws tag = prefix_laws (λ (c : List ℕ). Unit {0}) (λ c. tlv tag c) (λ t. eqb t tag) (λ v h. tagged_element tag v) (λ t content e. ⊥)
    (record { no_value = λ t content e lt k v hv q. k; one_error = λ t content e d lt k l. absurd k }) (λ v w hv hw e. tlv_same tag tag v w e)

one_element : (tag : ℕ) (octets : List ℕ) (f x y : Asn1DerError) (e : GssApiMessageError) → length octets < 2 ^ 64 → gss.Asn1Error f ≡ of_der x → e ≡ of_der y → ElementRejected tag octets x → ElementRejected tag octets y → Reported f e
one_element tag octets f x y e lt p q r s = one_of (HeaderError tag octets) f x y e (λ c d k l. (element_laws tag).one_error octets c d lt k l) p q (inr r.2) (inr s.2)

mechanism_laws : PrefixLaws IsArcs object_identifier (λ v rest. Unit {0}) (PrefixError (λ t. eqb t 6) (TaggedError 6 ArcsError))
mechanism_laws = prefix_laws IsArcs object_identifier (λ t. eqb t 6) (λ v h. tagged_element 6 (arcs_content v)) (TaggedError 6 ArcsError) (tagged_laws 6 IsArcs arcs_content ArcsError arcs_laws) (tagged_one_value 6 IsArcs arcs_content arcs_one_content)

mechanism_one : (content : List ℕ) (f : Asn1DerError) (e : GssApiMessageError) → length content < 2 ^ 64 → MechanismRejected content (gss.Asn1Error f) → MechanismRejected content e → Reported f e
mechanism_one content f e lt r s = one_prefix (Encodings IsArcs object_identifier) (PrefixError (λ t. eqb t 6) (TaggedError 6 ArcsError)) content f e (λ c d k l. mechanism_laws.one_error content c d lt k l) r s

module _ {A : Type 0} (m : EncodingOf A) where
  followed : (octets : List ℕ) (e : GssApiMessageError) (v : A) (more : List ℕ) → length octets < 2 ^ 64 → m.is_value v → octets ≡ m.enc v ++ more → PrefixRejected (Encodings m.is_value m.enc) (PrefixError m.first m.error) octets e → e ≡ gss.OutOfMemory
  followed octets e v more lt hv q r = no_prefix_error (Encodings m.is_value m.enc) (PrefixError m.first m.error) octets e r (m.enc v) more (v, hv, (trailing_fits (m.enc v) more octets lt q).0, refl) q

  message_one : (octets : List ℕ) (f : Asn1DerError) (e : GssApiMessageError) → length octets < 2 ^ 64 → MessageRejected m octets (gss.Asn1Error f) → MessageRejected m octets e → Reported f e
  message_one octets f e lt (inl r) (inl s) =
      let laws = prefix_laws m.is_value m.enc m.first m.is_element m.error m.error_laws m.one_value in
      one_prefix (Encodings m.is_value m.enc) (PrefixError m.first m.error) octets f e (λ c d k l. laws.one_error octets c d lt k l) r s
  message_one octets f e lt (inl r) (inr s) = absurd (no_memory f (followed octets (gss.Asn1Error f) s.1.0 s.1.1 lt s.1.2 s.1.4 r))
  message_one octets f e lt (inr r) (inl s) = inl (followed octets e r.1.0 r.1.1 lt r.1.2 r.1.4 s)
  message_one octets f e lt (inr r) (inr s) = inr (s.0 ∙ sym r.0)

  -- ---- a token of Kerberos

  id_one : (octets : List ℕ) (f : Asn1DerError) (e : GssApiMessageError) → length octets < 2 ^ 64 → IdRejected octets (gss.Asn1Error f) ⊎ TrailingId octets (λ id last. MessageRejected m last (gss.Asn1Error f))
      → IdRejected octets e ⊎ TrailingId octets (λ id last. MessageRejected m last e) → Reported f e
  id_one octets f e lt (inl r) s = absurd (no_io f r.0 r.1)
  id_one octets f e lt (inr r) (inl s) = absurd (no_id_error r.0 r.1 octets e r.2 r.3 s)
  id_one octets f e lt (inr r) (inr s) =
      let same = (same_prefixes r.0 s.0 r.1 s.1 (r.2.two ∙ sym s.2.two) (sym r.3 ∙ s.3)).1 in
      message_one s.1 f e (trailing_fits s.0 s.1 octets lt s.3).1 (subst (λ (l : List ℕ). MessageRejected m l (gss.Asn1Error f)) same r.4) s.4

  abbrev Inside : List ℕ → GssApiMessageError → Type 0
  Inside trailing e = IdRejected trailing e ⊎ TrailingId trailing (λ id last. MessageRejected m last e)

  inside_one : (content : List ℕ) (f : Asn1DerError) (e : GssApiMessageError) → length content < 2 ^ 64 → MechanismRejected content (gss.Asn1Error f) ⊎ TrailingMechanism content (λ oid trailing. Inside trailing (gss.Asn1Error f))
      → MechanismRejected content e ⊎ TrailingMechanism content (λ oid trailing. Inside trailing e) → Reported f e
  inside_one content f e lt (inl r) (inl s) = mechanism_one content f e lt r s
  inside_one content f e lt (inl r) (inr s) = absurd (no_memory f (no_mechanism_error s.0 s.1 content (gss.Asn1Error f) lt s.2 s.3 r))
  inside_one content f e lt (inr r) (inl s) = inl (no_mechanism_error r.0 r.1 content e lt r.2 r.3 s)
  inside_one content f e lt (inr r) (inr s) =
      let same = (one_mechanism r.0 s.0 r.1 s.1 (sym r.3 ∙ s.3)).1 in
      id_one s.1 f e (trailing_fits (object_identifier s.0) s.1 content lt s.3).1 (subst (λ (l : List ℕ). Inside l (gss.Asn1Error f)) same r.4) s.4

-- ---- the frame

frame_one : (input : List ℕ) (f : Asn1DerError) (e : GssApiMessageError) → length input < 2 ^ 64 → FrameRejected input (gss.Asn1Error f) → FrameRejected input e → Reported f e
frame_one input f e lt (inl r) (inl s) = inr (s.1 ∙ sym r.1)
frame_one input f e lt (inl r) (inr s) = absurd (r.0 s.0)
frame_one input f e lt (inr r) (inl s) = absurd (s.0 r.0)
frame_one input f e lt (inr r) (inr s) = one_element 96 input f r.1 s.1 e lt r.2 s.2 r.3 s.3

module _ (inside : List ℕ → GssApiMessageError → Type 0) (one : (content : List ℕ) (f : Asn1DerError) (e : GssApiMessageError) → length content < 2 ^ 64 → inside content (gss.Asn1Error f) → inside content e → Reported f e) where
  token_one : (input : List ℕ) (f : Asn1DerError) (e : GssApiMessageError) → length input < 2 ^ 64 → FrameRejected input (gss.Asn1Error f) ⊎ InToken input (λ content. inside content (gss.Asn1Error f))
      → FrameRejected input e ⊎ InToken input (λ content. inside content e) → Reported f e
  token_one input f e lt (inl r) (inl s) = frame_one input f e lt r s
  token_one input f e lt (inl r) (inr s) = absurd (no_memory f (no_frame_error s.0 s.1 input (gss.Asn1Error f) lt s.2 r))
  token_one input f e lt (inr r) (inl s) = inl (no_frame_error r.0 r.1 input e lt r.2 s)
  token_one input f e lt (inr r) (inr s) =
      let same = (tlv_apart 96 96 r.0 s.0 r.1 s.1 (sym r.2 ∙ s.2)).content in
      one s.0 f e (content_fits s.0 s.1 input lt s.2) (subst (λ (l : List ℕ). inside l (gss.Asn1Error f)) same r.3) s.3

pub one_krb_message : {A : Type 0} (m : EncodingOf A) → ReportsOneError (KrbMessageRejected m)
one_krb_message m input f e lt r s = token_one (λ content d. MechanismRejected content d ⊎ TrailingMechanism content (λ oid trailing. Inside m trailing d)) (inside_one m) input f e lt r s

-- ---- a token of IAKERB

module _ {A : Type 0} (k : EncodingOf IAKerbHeader) (m : EncodingOf A) where
  stands : (octets : List ℕ) (f x : Asn1DerError) → length octets < 2 ^ 64 → gss.Asn1Error f ≡ of_der x → ElementRejected 48 octets x → (content trailing : List ℕ) → octets ≡ tlv 48 content ++ trailing → ⊥
  stands octets f x lt p r content trailing q = r.0 (prefix_memory (Elements 48) octets x r.1 (tlv 48 content) trailing (content, (trailing_fits (tlv 48 content) trailing octets lt q).0, refl) q)

  header_one : (octets : List ℕ) (f : Asn1DerError) (e : GssApiMessageError) → length octets < 2 ^ 64 → HeaderRejected k octets (gss.Asn1Error f) → HeaderRejected k octets e → Reported f e
  header_one octets f e lt (x, p, inl r) (y, q, inl s) = one_element 48 octets f x y e lt p q r s
  header_one octets f e lt (x, p, inl r) (y, q, inr s) = absurd (stands octets f x lt p r s.content s.trailing s.prefix)
  header_one octets f e lt (x, p, inr r) (y, q, inl s) = absurd (s.0 (prefix_memory (Elements 48) octets y s.1 (tlv 48 r.content) r.trailing (r.content, (trailing_fits (tlv 48 r.content) r.trailing octets lt r.prefix).0, refl) r.prefix))
  header_one octets f e lt (x, p, inr r) (y, q, inr s) =
      let same = (tlv_apart 48 48 r.content s.content r.trailing s.trailing (sym r.prefix ∙ s.prefix)).content in
      let short = content_short 48 s.content s.trailing octets s.prefix lt in
      one_of (k.error 48 s.content) f x y e (λ c d a b. k.error_laws.one_error 48 s.content c d short a b) p q (subst (λ (l : List ℕ). OrMemory (k.error 48 l) x) same r.first) s.first

  abbrev Header : List ℕ → GssApiMessageError → Type 0
  Header octets e = HeaderRejected k octets e ⊎ TrailingHeader k octets (λ last. MessageRejected m last e)

  trailing_one : (octets : List ℕ) (f : Asn1DerError) (e : GssApiMessageError) → length octets < 2 ^ 64 → Header octets (gss.Asn1Error f) → Header octets e → Reported f e
  trailing_one octets f e lt (inl r) (inl s) = header_one octets f e lt r s
  trailing_one octets f e lt (inl r) (inr s) = absurd (no_memory f (no_header_error k s.0 s.1 s.2 octets (gss.Asn1Error f) lt s.3 s.4 s.5 r))
  trailing_one octets f e lt (inr r) (inl s) = inl (no_header_error k r.0 r.1 r.2 octets e lt r.3 r.4 r.5 s)
  trailing_one octets f e lt (inr r) (inr s) =
      let same = (trailing_header r.0 s.0 r.1 s.1 r.2 s.2 r.4 s.4 (sym r.5 ∙ s.5)).1 in
      message_one m s.2 f e (trailing_fits s.1 s.2 octets lt s.5).1 (subst (λ (l : List ℕ). MessageRejected m l (gss.Asn1Error f)) same r.6) s.6

  abbrev Proxied : List ℕ → GssApiMessageError → Type 0
  Proxied trailing e = ProxyIdRejected trailing e ⊎ ((octets : List ℕ) × (trailing ≡ proxy_id ++ octets) × Header octets e)

  proxied_one : (trailing : List ℕ) (f : Asn1DerError) (e : GssApiMessageError) → length trailing < 2 ^ 64 → Proxied trailing (gss.Asn1Error f) → Proxied trailing e → Reported f e
  proxied_one trailing f e lt (inl (inl r)) s = absurd (no_io f r.0 r.1)
  proxied_one trailing f e lt (inl (inr r)) s = absurd (no_id f proxy_id r.0 r.4.1)
  proxied_one trailing f e lt (inr r) (inl (inl s)) = absurd (no_id_error proxy_id r.0 trailing e proxy_id_two r.1 s)
  proxied_one trailing f e lt (inr r) (inl (inr s)) = absurd (s.4.0 (same_prefixes s.0 proxy_id s.1 r.0 (s.2.two ∙ sym proxy_id_two.two) (sym s.3 ∙ r.1)).0)
  proxied_one trailing f e lt (inr r) (inr s) =
      let same = append_cancel_left proxy_id r.0 s.0 (sym r.1 ∙ s.1) in
      trailing_one s.0 f e (trailing_fits proxy_id s.0 trailing lt s.1).1 (subst (λ (l : List ℕ). Header l (gss.Asn1Error f)) same r.2) s.2

  abbrev Content : List ℕ → GssApiMessageError → Type 0
  Content content e = IAKerbRejected content e ⊎ ((trailing : List ℕ) × (content ≡ object_identifier iakerb ++ trailing) × Proxied trailing e)

  content_one : (content : List ℕ) (f : Asn1DerError) (e : GssApiMessageError) → length content < 2 ^ 64 → Content content (gss.Asn1Error f) → Content content e → Reported f e
  content_one content f e lt (inl (inl r)) (inl (inl s)) = mechanism_one content f e lt r s
  content_one content f e lt (inl (inl r)) (inl (inr s)) = absurd (no_memory f (no_mechanism_error s.0 s.1 content (gss.Asn1Error f) lt s.2 s.3 r))
  content_one content f e lt (inl (inl r)) (inr s) = absurd (no_memory f (no_mechanism_error iakerb s.0 content (gss.Asn1Error f) lt iakerb_arcs s.1 r))
  content_one content f e lt (inl (inr r)) s = absurd r.4.1
  content_one content f e lt (inr r) (inl (inl s)) = inl (no_mechanism_error iakerb r.0 content e lt iakerb_arcs r.1 s)
  content_one content f e lt (inr r) (inl (inr s)) =
      let same = one_mechanism s.0 iakerb s.1 r.0 (sym s.3 ∙ r.1) in
      absurd (s.4.0 (tagged_one_value 6 IsArcs arcs_content arcs_one_content s.0 iakerb s.2 iakerb_arcs same.0))
  content_one content f e lt (inr r) (inr s) =
      let same = append_cancel_left (object_identifier iakerb) r.0 s.0 (sym r.1 ∙ s.1) in
      proxied_one s.0 f e (trailing_fits (object_identifier iakerb) s.0 content lt s.1).1 (subst (λ (l : List ℕ). Proxied l (gss.Asn1Error f)) same r.2) s.2

  pub one_proxy_message : ReportsOneError (ProxyRejected k m)
  one_proxy_message input f e lt r s = token_one Content content_one input f e lt r s
