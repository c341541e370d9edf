-- Equal encodings are of equal messages.
use Rattle.std.proofs.Common.{◌≡◌, ℕ, List, ◌++◌, ap, ◌∙◌}
use Rattle.std.proofs.lemmas.List.{append_cancel_left}
use Rattle.krb_der_core.specs.Tlv.{tlv}
use Rattle.krb_der_core.specs.TlvLaws.{field_apart, tlv_same}
use Rattle.krb_der_core.specs.declared.error.Asn1DerError.{Asn1DerError}
use Rattle.krb_der_core.specs.Encoding.{OneValue}
use Rattle.krb_der_core.specs.Errors.{PrimitiveError, ErrorLaws}
use Rattle.krb_der_core.specs.ErrorLaws.{primitive_error_laws}
use Rattle.krb_der_x509.specs.ObjectIdentifier.{object_identifier}
use Rattle.krb_gss_tokens.specs.declared.iakerb_header.messages.header.IAKerbHeader.{IAKerbHeader}
use Rattle.krb_der_core.specs.declared.der.DerEncode.{Ghosts as EncodingOf}
use Rattle.krb_gss_tokens.specs.declared.iakerb.IAKerbProxyMessage.{IAKerbProxyMessage}
use Rattle.krb_gss_tokens.specs.Proxy.{iakerb, proxy_id}

pub same_parts : {A : Type 0} (v w : IAKerbProxyMessage A) → v.header ≡ w.header → v.krb_msg ≡ w.krb_msg → v ≡ w
same_parts {A} v w e f =
    let mk : IAKerbHeader → A → IAKerbProxyMessage A = λ a b. record { header = a; krb_msg = b } in
    ap (λ (a : IAKerbHeader). mk a v.krb_msg) e ∙ ap (λ (b : A). mk w.header b) f

pub proxy_one_value : {A : Type 0} (h : EncodingOf IAKerbHeader) (is_value : A → Type 0) (enc : A → List ℕ) → OneValue is_value enc
    → OneValue (λ (v : IAKerbProxyMessage A). h.is_value v.header × is_value v.krb_msg) (λ (v : IAKerbProxyMessage A). tlv 48 (object_identifier iakerb ++ (proxy_id ++ (h.enc v.header ++ enc v.krb_msg))))
proxy_one_value h is_value enc one v w hv hw e =
    let rest : IAKerbProxyMessage _ → List ℕ = λ m. h.enc m.header ++ enc m.krb_msg in
    let p = append_cancel_left (object_identifier iakerb) (proxy_id ++ rest v) (proxy_id ++ rest w) (tlv_same 48 48 _ _ e) in
    let q = append_cancel_left proxy_id (rest v) (rest w) p in
    let s = field_apart h.enc h.is_value h.first h.is_element h.one_value v.header w.header (enc v.krb_msg) (enc w.krb_msg) hv.0 hw.0 q in
    same_parts v w s.0 (one v.krb_msg w.krb_msg hv.1 hw.1 s.1)

-- no `Der` reads these messages: an element that is none of theirs is invalid
abbrev pub ProxyError : {A : Type 0} → EncodingOf IAKerbHeader → (A → Type 0) → (A → List ℕ) → ℕ → List ℕ → Asn1DerError → Type 0
ProxyError {A} h is_value enc = PrimitiveError 48 (λ (v : IAKerbProxyMessage A). h.is_value v.header × is_value v.krb_msg) (λ (v : IAKerbProxyMessage A). object_identifier iakerb ++ (proxy_id ++ (h.enc v.header ++ enc v.krb_msg)))

pub proxy_error_laws : {A : Type 0} (h : EncodingOf IAKerbHeader) (is_value : A → Type 0) (enc : A → List ℕ)
    → ErrorLaws (λ (v : IAKerbProxyMessage A). h.is_value v.header × is_value v.krb_msg) (λ (v : IAKerbProxyMessage A). tlv 48 (object_identifier iakerb ++ (proxy_id ++ (h.enc v.header ++ enc v.krb_msg)))) (ProxyError h is_value enc)
proxy_error_laws {A} h is_value enc = primitive_error_laws 48 (λ (v : IAKerbProxyMessage A). h.is_value v.header × is_value v.krb_msg) (λ (v : IAKerbProxyMessage A). object_identifier iakerb ++ (proxy_id ++ (h.enc v.header ++ enc v.krb_msg)))
