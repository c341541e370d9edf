-- A token of Kerberos is not rejected, unless an allocation fails.
use Rattle.std.proofs.Common.{◌≡◌, ℕ, ◌<◌, ◌^◌, ◌⊎◌, inl, inr, List, ◌++◌, length, refl, sym, ap, ◌∙◌, append_assoc}
use Rattle.krb_der_core.specs.Tlv.{tlv}
use Rattle.krb_der_core.specs.TlvLaws.{same_prefixes, tagged_one_value, tlv_apart}
use Rattle.krb_der_core.specs.declared.der.DerEncode.{Ghosts as EncodingOf}
use Rattle.krb_der_x509.specs.ObjectIdentifier.{IsArcs, arcs_content, object_identifier}
use Rattle.krb_der_x509.specs.ObjectIdentifierLaws.{arcs_one_content}
use Rattle.krb_gss_tokens.specs.declared.error.GssApiMessageError.{GssApiMessageError}
use Rattle.krb_gss_tokens.specs.declared.error.GssApiMessageError.TheVariants as gss
use Rattle.krb_gss_tokens.specs.declared.krb_message.KrbMessage.{KrbMessage}
use Rattle.krb_gss_tokens.specs.Token.{IsTokenId, in_token, token}
use Rattle.krb_gss_tokens.specs.TokenLaws.{token_is}
use Rattle.krb_gss_tokens.specs.Rejected.{TrailingId, TrailingMechanism, IdRejected, KrbMessageRejected, MechanismRejected, MessageRejected}
use Rattle.krb_gss_tokens.proofs.Errors.{trailing_fits, content_fits, no_frame_error, no_id_error, no_mechanism_error, no_message_error, one_mechanism}

module _ {A : Type 0} (m : EncodingOf A) where
  module _ (v : A) (hv : m.is_value v) (oid id : List ℕ) (arcs : IsArcs oid) (two : IsTokenId id) (e : GssApiMessageError) where
    trailing_id : (octets : List ℕ) → length octets < 2 ^ 64 → octets ≡ id ++ m.enc v → TrailingId octets (λ x last. MessageRejected m last e) → e ≡ gss.OutOfMemory
    trailing_id octets lt q r =
        let s = same_prefixes r.0 id r.1 (m.enc v) (r.2.two ∙ sym two.two) (sym r.3 ∙ q) in
        no_message_error m v r.1 e (trailing_fits r.0 r.1 octets lt r.3).1 hv s.1 r.4

    at_id : (octets : List ℕ) → length octets < 2 ^ 64 → octets ≡ id ++ m.enc v → IdRejected octets e ⊎ TrailingId octets (λ x last. MessageRejected m last e) → e ≡ gss.OutOfMemory
    at_id octets lt q (inl r) = absurd (no_id_error id (m.enc v) octets e two q r)
    at_id octets lt q (inr r) = trailing_id octets lt q r

    at_mechanism : (content : List ℕ) → length content < 2 ^ 64 → content ≡ object_identifier oid ++ (id ++ m.enc v)
        → MechanismRejected content e ⊎ TrailingMechanism content (λ o trailing. IdRejected trailing e ⊎ TrailingId trailing (λ x last. MessageRejected m last e)) → e ≡ gss.OutOfMemory
    at_mechanism content lt q (inl r) = no_mechanism_error oid (id ++ m.enc v) content e lt arcs q r
    at_mechanism content lt q (inr r) = at_id r.1 (trailing_fits (object_identifier r.0) r.1 content lt r.3).1 (one_mechanism r.0 oid r.1 (id ++ m.enc v) (sym r.3 ∙ q)).1 r.4

    pub no_rejection : (input rest : List ℕ) → length input < 2 ^ 64 → input ≡ token (object_identifier oid ++ id ++ m.enc v) ++ rest → KrbMessageRejected m input e → e ≡ gss.OutOfMemory
    no_rejection input rest lt q (inl r) = no_frame_error (object_identifier oid ++ id ++ m.enc v) rest input e lt q r
    no_rejection input rest lt q (inr r) =
        let s = tlv_apart 96 96 r.0 (object_identifier oid ++ id ++ m.enc v) r.1 rest (sym r.2 ∙ q) in
        at_mechanism r.0 (content_fits r.0 r.1 input lt r.2) (s.content ∙ append_assoc (object_identifier oid) id (m.enc v)) r.3

  -- the same over the SEQUENCE's encoding
  pub no_rejection_of : (oid id : List ℕ) (v : A) (input rest : List ℕ) (e : GssApiMessageError) → length input < 2 ^ 64 → IsArcs oid × IsTokenId id × m.is_value v → input ≡ in_token (tlv 48 (object_identifier oid ++ id ++ m.enc v)) ++ rest → KrbMessageRejected m input e → e ≡ gss.OutOfMemory
  no_rejection_of oid id v input rest e lt h q r = no_rejection v h.2 oid id h.0 h.1 e input rest lt (q ∙ ap (λ (l : List ℕ). l ++ rest) (token_is (tlv 48 (object_identifier oid ++ id ++ m.enc v)) _ refl)) r

  -- a token is of one mechanism, id and message
  pub one_reading : (oid id : List ℕ) (v : A) (other_oid other_id : List ℕ) (w : A) (input x y : List ℕ) → IsArcs oid × IsTokenId id × m.is_value v → IsArcs other_oid × IsTokenId other_id × m.is_value w
      → input ≡ in_token (tlv 48 (object_identifier oid ++ id ++ m.enc v)) ++ x → input ≡ in_token (tlv 48 (object_identifier other_oid ++ other_id ++ m.enc w)) ++ y → (oid ≡ other_oid) × (id ≡ other_id) × (v ≡ w)
  one_reading oid id v other_oid other_id w input x y h k p q =
      let a = object_identifier oid ++ id ++ m.enc v in
      let b = object_identifier other_oid ++ other_id ++ m.enc w in
      let s = tlv_apart 96 96 a b x y (ap (λ (l : List ℕ). l ++ x) (sym (token_is (tlv 48 a) a refl)) ∙ sym p ∙ q ∙ ap (λ (l : List ℕ). l ++ y) (token_is (tlv 48 b) b refl)) in
      let t = one_mechanism oid other_oid (id ++ m.enc v) (other_id ++ m.enc w) (sym (append_assoc (object_identifier oid) id (m.enc v)) ∙ s.content ∙ append_assoc (object_identifier other_oid) other_id (m.enc w)) in
      let u = same_prefixes id other_id (m.enc v) (m.enc w) (h.1.two ∙ sym k.1.two) t.1 in
      (tagged_one_value 6 IsArcs arcs_content arcs_one_content oid other_oid h.0 k.0 t.0, u.0, m.one_value v w h.2 k.2 u.1)

pub parts_found : (oid id message content trailing last input rest : List ℕ) → input ≡ token content ++ rest → content ≡ object_identifier oid ++ trailing → trailing ≡ id ++ last → last ≡ message
    → input ≡ in_token (tlv 48 (object_identifier oid ++ id ++ message)) ++ rest
parts_found oid id message content trailing last input rest p q r s =
    let a = object_identifier oid ++ id ++ message in
    let c : content ≡ a = q ∙ ap (λ (l : List ℕ). object_identifier oid ++ l) (r ∙ ap (λ (l : List ℕ). id ++ l) s) ∙ sym (append_assoc (object_identifier oid) id message) in
    p ∙ ap (λ (l : List ℕ). token l ++ rest) c ∙ ap (λ (l : List ℕ). l ++ rest) (sym (token_is (tlv 48 a) a refl))

pub same_message : {A : Type 0} (oid other_oid id other_id : List ℕ) (v w : A) → (oid ≡ other_oid) × (id ≡ other_id) × (v ≡ w)
    → ◌≡◌ {A = KrbMessage A} (record { krb5_oid = oid; krb5_token_id = id; krb_msg = v }) (record { krb5_oid = other_oid; krb5_token_id = other_id; krb_msg = w })
same_message {A} oid other_oid id other_id v w e =
    let mk : List ℕ → List ℕ → A → KrbMessage A = λ a b c. record { krb5_oid = a; krb5_token_id = b; krb_msg = c } in
    ap (λ (a : List ℕ). mk a id v) e.0 ∙ ap (λ (b : List ℕ). mk other_oid b v) e.1 ∙ ap (λ (c : A). mk other_oid other_id c) e.2
