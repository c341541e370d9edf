-- What is at the start of octets is not rejected, unless an allocation fails.
use Rattle.std.proofs.Common.{◌≡◌, ℕ, suc, ◌+◌, ◌<◌, ◌^◌, inl, inr, eqb, List, [], ◌++◌, length, refl, sym, ap, subst, ◌∙◌, arith}
use Rattle.std.proofs.lemmas.List.{append-nil, length-append}
use Rattle.krb_der_core.specs.declared.error.Asn1DerError.{Asn1DerError}
use Rattle.krb_der_core.specs.declared.error.Asn1DerError.TheVariants as errors
use Rattle.krb_der_core.specs.Tlv.{len, tlv}
use Rattle.krb_der_core.specs.TlvLaws.{field_apart, tlv_apart}
use Rattle.krb_der_core.specs.declared.der.DerEncode.{Ghosts as EncodingOf}
use Rattle.krb_der_core.specs.Errors.{PrefixError, TaggedError}
use Rattle.krb_der_core.specs.Reading.{Elements, Encodings, RejectsPrefix}
use Rattle.krb_der_x509.specs.ObjectIdentifier.{IsArcs, arcs_content, object_identifier}
use Rattle.krb_der_x509.specs.ObjectIdentifierErrors.{ArcsError}
use Rattle.krb_gss_tokens.specs.Fields.{Begins}
use Rattle.krb_gss_tokens.specs.declared.error.GssApiMessageError.{GssApiMessageError}
use Rattle.krb_gss_tokens.specs.declared.error.GssApiMessageError.TheVariants as gss
use Rattle.krb_gss_tokens.specs.Errors.{of_der}
use Rattle.krb_gss_tokens.specs.Token.{IsTokenId, token}
use Rattle.krb_gss_tokens.specs.Rejected.{FrameRejected, PrefixRejected, IdRejected, MechanismRejected, MessageRejected}

pub prefix_memory : (P : List ℕ → Type 0) (octets : List ℕ) (f : Asn1DerError) → RejectsPrefix P octets f → (b rest : List ℕ) → P b → octets ≡ b ++ rest → f ≡ errors.OutOfMemory
prefix_memory P octets errors.OutOfMemory r b rest h q = refl
prefix_memory P octets errors.TruncatedData r b rest h q = absurd (r b rest h q)
prefix_memory P octets errors.InvalidData r b rest h q = absurd (r.0 b rest h q)
prefix_memory P octets errors.UnsupportedValue r b rest h q = absurd (r.0 b rest h q)
prefix_memory P octets (errors.Io x) r b rest h q = absurd r

pub no_prefix_error : (P : List ℕ → Type 0) (error : List ℕ → Asn1DerError → Type 0) (octets : List ℕ) (e : GssApiMessageError) → PrefixRejected P error octets e → (b rest : List ℕ) → P b → octets ≡ b ++ rest → e ≡ gss.OutOfMemory
no_prefix_error P error octets e r b rest h q = r.1 ∙ ap of_der (prefix_memory P octets r.0 r.2 b rest h q)

-- ---- the frame

begins_token : (content rest : List ℕ) → Begins 96 (token content ++ rest)
unfolding tlv
begins_token content rest = refl

token_long : (content rest : List ℕ) → length (token content ++ rest) ≡ suc (length (len (length content)) + length content) + length rest
unfolding tlv
token_long content rest = omega (arith, length-append (token content) rest, length-append (len (length content)) content)

pub token_fits : (content rest input : List ℕ) → length input < 2 ^ 64 → input ≡ token content ++ rest → length (token content) < 2 ^ 64
token_fits content rest input lt q = omega (arith, ap length q, length-append (token content) rest)

pub content_fits : (content rest input : List ℕ) → length input < 2 ^ 64 → input ≡ token content ++ rest → length content < 2 ^ 64
content_fits content rest input lt q = omega (arith, ap length q, token_long content rest)

pub no_frame_error : (content rest input : List ℕ) (e : GssApiMessageError) → length input < 2 ^ 64 → input ≡ token content ++ rest → FrameRejected input e → e ≡ gss.OutOfMemory
no_frame_error content rest input e lt q (inl r) = absurd (r.0 (subst (λ (l : List ℕ). Begins 96 l) (sym q) (begins_token content rest)))
no_frame_error content rest input e lt q (inr r) = absurd (r.3.0 (prefix_memory (Elements 96) input r.1 r.3.1 (token content) rest (content, token_fits content rest input lt q, refl) q))

-- ---- what stands in it

pub trailing_fits : (a b octets : List ℕ) → length octets < 2 ^ 64 → octets ≡ a ++ b → (length a < 2 ^ 64) × (length b < 2 ^ 64)
trailing_fits a b octets lt q = (omega (arith, ap length q, length-append a b), omega (arith, ap length q, length-append a b))

pub no_mechanism_error : (oid trailing content : List ℕ) (e : GssApiMessageError) → length content < 2 ^ 64 → IsArcs oid → content ≡ object_identifier oid ++ trailing → MechanismRejected content e → e ≡ gss.OutOfMemory
no_mechanism_error oid trailing content e lt arcs q r = no_prefix_error (Encodings IsArcs object_identifier) (PrefixError (λ t. eqb t 6) (TaggedError 6 ArcsError)) content e r (object_identifier oid) trailing (oid, arcs, (trailing_fits (object_identifier oid) trailing content lt q).0, refl) q

pub no_id_error : (id trailing octets : List ℕ) (e : GssApiMessageError) → IsTokenId id → octets ≡ id ++ trailing → IdRejected octets e → ⊥
no_id_error id trailing octets e h q r = omega (arith, r.3, ap length q, length-append id trailing, h.two)

pub one_mechanism : (oid other x y : List ℕ) → object_identifier oid ++ x ≡ object_identifier other ++ y → (object_identifier oid ≡ object_identifier other) × (x ≡ y)
one_mechanism oid other x y e =
    let s = tlv_apart 6 6 (arcs_content oid) (arcs_content other) x y e in
    (ap (λ (l : List ℕ). tlv 6 l) s.content, s.rest)

module _ {A : Type 0} (m : EncodingOf A) where
  none_trailing : (v w : A) (more octets : List ℕ) → m.is_value v → m.is_value w → 0 < length more → octets ≡ m.enc w ++ more → octets ≡ m.enc v → ⊥
  none_trailing v w more octets hv hw some k q =
      let s = field_apart m.enc m.is_value m.first m.is_element m.one_value w v more [] hw hv (sym k ∙ q ∙ sym (append-nil (m.enc v))) in
      omega (arith, some, ap length s.1)

  pub no_message_error : (v : A) (octets : List ℕ) (e : GssApiMessageError) → length octets < 2 ^ 64 → m.is_value v → octets ≡ m.enc v → MessageRejected m octets e → e ≡ gss.OutOfMemory
  no_message_error v octets e lt hv q (inl r) = no_prefix_error (Encodings m.is_value m.enc) (PrefixError m.first m.error) octets e r (m.enc v) [] (v, hv, omega (arith, lt, ap length q), refl) (q ∙ sym (append-nil (m.enc v)))
  no_message_error v octets e lt hv q (inr r) = absurd (none_trailing v r.1.0 r.1.1 octets hv r.1.2 r.1.3 r.1.4 q)

  -- a whole encoding is of one value
  pub one_message : (v w : A) (octets : List ℕ) → m.is_value v → m.is_value w → octets ≡ m.enc v → octets ≡ m.enc w → v ≡ w
  one_message v w octets hv hw p q = m.one_value v w hv hw (sym p ∙ q)
