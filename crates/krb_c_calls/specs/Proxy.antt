-- KDC-PROXY-MESSAGE (MS-KKDCP, 2.2.2), of its fields.
use Rattle.std.specs.Prelude.{ℕ, List, ◌++◌, Option}
use Rattle.krb_der_core.specs.Encoding.{optional}
use Rattle.krb_der.specs.Asn1.{explicit, general_string, octet_string, sequence}

-- a message of these fields, and of the last one's encoding
abbrev pub proxy_octets : List ℕ → Option (List ℕ) → List ℕ → List ℕ
proxy_octets message domain last = sequence (explicit 0 (octet_string message) ++ optional (λ x. explicit 1 (general_string x)) domain ++ last)
