-- The word of ASN.1 for an implicit tag, beside those of krb_der.
use Rattle.std.specs.Prelude.{ℕ, List, ◌+◌}
use Rattle.krb_der_core.specs.Tlv.{tlv}

-- [n] IMPLICIT, of a primitive type with this content: context-specific n, primitive (X.690, 8.1.2 and 8.14)
abbrev pub implicit : ℕ → List ℕ → List ℕ
implicit n content = tlv (128 + n) content
