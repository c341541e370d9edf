-- The encodings of ASN.1's types, by the names that they have there, with the section of X.690 that gives tag and content.
use Rattle.std.specs.Prelude.{ℕ, ℤ, Bool, List, ◌+◌}
use Rattle.std.specs.List.{flat_map}
use Rattle.krb_der_core.specs.Tlv.{tlv}
use Rattle.krb_der_core.specs.Primitive.{bool_content}
use Rattle.krb_der_core.specs.Integer.{shortest}
use Rattle.krb_der_core.specs.BitString.{Bits, bits_content}
use Rattle.krb_der_core.specs.GeneralizedTime.{Time, time_content}

-- BOOLEAN: universal 1 (8.2 and 11.1)
abbrev pub boolean : Bool → List ℕ
boolean b = tlv 1 (bool_content b)

-- INTEGER: universal 2 (8.3)
abbrev pub integer : ℤ → List ℕ
integer z = tlv 2 (shortest z)

-- BIT STRING: universal 3 (8.6 and 11.2)
abbrev pub bit_string : Bits → List ℕ
bit_string b = tlv 3 (bits_content b)

-- OCTET STRING: universal 4 (8.7)
abbrev pub octet_string : List ℕ → List ℕ
octet_string octets = tlv 4 octets

-- UTF8String: universal 12 (8.23)
abbrev pub utf8_string : List ℕ → List ℕ
utf8_string octets = tlv 12 octets

-- GeneralizedTime: universal 24 (8.25 and 11.7)
abbrev pub generalized_time : Time → List ℕ
generalized_time t = tlv 24 (time_content t)

-- GeneralString: universal 27 (8.23)
abbrev pub general_string : List ℕ → List ℕ
general_string octets = tlv 27 octets

-- SEQUENCE, of the encodings of its fields, concatenated: universal 16, constructed (8.9)
abbrev pub sequence : List ℕ → List ℕ
sequence content = tlv 48 content

-- SEQUENCE OF, with the encoding of an item: universal 16, constructed (8.10)
abbrev pub sequence_of : {A : Type 0} → (A → List ℕ) → List A → List ℕ
sequence_of enc items = tlv 48 (flat_map enc items)

-- [n] EXPLICIT, around an encoding: context-specific n, constructed (8.1.2 and 8.14)
abbrev pub explicit : ℕ → List ℕ → List ℕ
explicit n element = tlv (160 + n) element

-- [APPLICATION n] EXPLICIT, around an encoding: application n, constructed (8.1.2 and 8.14)
abbrev pub application : ℕ → List ℕ → List ℕ
application n element = tlv (96 + n) element
