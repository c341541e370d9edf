-- The encodings of types, by the words of ASN.1, as values that are the same whatever the names of fields are.
use Rattle.std.specs.Prelude.{ℕ, ℤ, pos, ◌<◌, ◌^◌, Bool, List, [], ◌++◌, Option}
use Rattle.std.specs.List.{flat_map, AllByRecursion}
use Rattle.std.specs.Option.{IfSome}
use Rattle.std.specs.Str.{IsAscii}
use Rattle.krb_der_core.specs.BitString.{Bits, IsBits, bits_content}
use Rattle.krb_der_core.specs.Encoding.{IsElement, IsOctets, optional}
use Rattle.krb_der_core.specs.GeneralizedTime.{Time, IsRealTime, time_content}
use Rattle.krb_der_core.specs.Integer.{shortest}
use Rattle.krb_der_core.specs.Primitive.{bool_content}
use Rattle.krb_der_core.specs.Tlv.{tlv}
use Rattle.krb_der_x509.specs.ObjectIdentifier.{IsArcs, arcs_content}
use Rattle.krb_der_x509.specs.RawValue.{is_raw_first}

-- values, which of them have an encoding, and it
pub record Codec : Type 1 where
  pub value : Type 0
  pub valid : value → Type 0
  pub enc : value → List ℕ

abbrev pub integer : Codec
integer = record { value = ℤ; valid = λ v. Unit {0}; enc = λ v. tlv 2 (shortest v) }

abbrev pub bits : Codec
bits = record { value = Bits; valid = IsBits; enc = λ v. tlv 3 (bits_content v) }

abbrev pub octets : Codec
octets = record { value = List ℕ; valid = IsOctets; enc = λ v. tlv 4 v }

abbrev pub time : Codec
time = record { value = Time; valid = IsRealTime; enc = λ v. tlv 24 (time_content v) }

abbrev pub text : Codec
text = record { value = List ℕ; valid = IsAscii; enc = λ v. tlv 27 v }

abbrev pub truth : Codec
truth = record { value = Bool; valid = λ v. Unit {0}; enc = λ v. tlv 1 (bool_content v) }

-- an INTEGER of 32 bits without a sign
abbrev pub unsigned_octets : ℕ → List ℕ
unsigned_octets n = tlv 2 (shortest (pos n))

abbrev pub unsigned : Codec
unsigned = record { value = ℕ; valid = λ v. v < 2 ^ 32; enc = unsigned_octets }

-- an OCTET STRING whose tag is another's (IMPLICIT; X.690, 8.14.3), an OBJECT IDENTIFIER, and any element
abbrev pub octets_under : ℕ → Codec
octets_under tag = record { value = List ℕ; valid = IsOctets; enc = λ v. tlv tag v }

abbrev pub identifier : Codec
identifier = record { value = List ℕ; valid = IsArcs; enc = λ v. tlv 6 (arcs_content v) }

abbrev pub any : Codec
any = record { value = List ℕ; valid = IsElement is_raw_first; enc = λ v. v }

-- values of another type, each as one of a codec
abbrev pub coded : {A : Type 0} (c : Codec) → (A → c.value) → Codec
coded {A} c to = record { value = A; valid = λ v. c.valid (to v); enc = λ v. c.enc (to v) }

-- an element in a tag, and a SEQUENCE OF
abbrev pub tagged : ℕ → Codec → Codec
tagged tag c = record { value = c.value; valid = c.valid; enc = λ v. tlv tag (c.enc v) }

abbrev pub sequence_of : Codec → Codec
sequence_of c = record { value = List c.value; valid = AllByRecursion c.valid; enc = λ v. tlv 48 (flat_map c.enc v) }

-- fields in order: none; one in its tag, and those behind it; one that may be absent, and those behind it
abbrev pub end : Codec
end = record { value = Unit {0}; valid = λ v. Unit {0}; enc = λ v. [] }

abbrev pub required : ℕ → Codec → Codec → Codec
required tag c rest = record { value = c.value × rest.value; valid = λ v. c.valid v.0 × rest.valid v.1; enc = λ v. tlv tag (c.enc v.0) ++ rest.enc v.1 }

abbrev pub maybe : ℕ → Codec → Codec → Codec
maybe tag c rest = record {
  value = Option c.value × rest.value;
  valid = λ v. IfSome v.0 c.valid × rest.valid v.1;
  enc = λ v. optional (λ x. tlv tag (c.enc x)) v.0 ++ rest.enc v.1;
}

-- one by itself, and those behind it; one by itself that may be absent, and those behind it
abbrev pub bare : Codec → Codec → Codec
bare c rest = record { value = c.value × rest.value; valid = λ v. c.valid v.0 × rest.valid v.1; enc = λ v. c.enc v.0 ++ rest.enc v.1 }

abbrev pub maybe_bare : Codec → Codec → Codec
maybe_bare c rest = record {
  value = Option c.value × rest.value;
  valid = λ v. IfSome v.0 c.valid × rest.valid v.1;
  enc = λ v. optional c.enc v.0 ++ rest.enc v.1;
}
