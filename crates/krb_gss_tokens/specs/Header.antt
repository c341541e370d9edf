-- What an IAKERB header is read from (draft-ietf-kitten-iakerb-03, 3).
use Rattle.std.specs.Prelude.{◌≡◌, ℕ, List, ◌++◌}
use Rattle.krb_der.specs.Asn1.{bit_string, explicit, octet_string, sequence, utf8_string}
use Rattle.krb_der.specs.Encoding.{optional}
use Rattle.krb_gss_tokens.specs.declared.iakerb_header.messages.header.IAKerbHeader.{IAKerbHeader}
use Rattle.krb_gss_tokens.specs.Fields.{IsDetermined}

-- target-realm [1] UTF8String
abbrev pub realm : IAKerbHeader → List ℕ
realm h = explicit 1 (utf8_string h.target_realm)

-- cookie [2] OCTET STRING OPTIONAL
abbrev pub cookie : IAKerbHeader → List ℕ
cookie h = optional (λ x. explicit 2 (octet_string x)) h.cookie.0

-- flags [3] BIT STRING OPTIONAL
abbrev pub flags : IAKerbHeader → List ℕ
flags h = optional (λ x. explicit 3 (bit_string x)) h.flags.0

-- The content of a sequence is read as this header: it is the realm, the cookie, the flags, and a rest of any octets. The
-- cookie is there exactly where what follows the realm begins with a2, and the flags exactly where what follows the cookie
-- begins with a3.
pub record ContentReads (content : List ℕ) (h : IAKerbHeader) : Type 0 where
  pub rest : List ℕ
  pub fields : content ≡ realm h ++ (cookie h ++ (flags h ++ rest))
  pub cookie_determined : IsDetermined 162 h.cookie.0 (cookie h ++ (flags h ++ rest))
  pub flags_determined : IsDetermined 163 h.flags.0 (flags h ++ rest)

-- Octets are read as this header: they are a sequence whose content is.
abbrev pub HeaderReads : List ℕ → IAKerbHeader → Type 0
HeaderReads octets h = (content : List ℕ) × (octets ≡ sequence content) × ContentReads content h
