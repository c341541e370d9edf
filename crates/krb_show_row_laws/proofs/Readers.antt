-- What `from_bytes` has of types, by the words of the impls that read them: values, encodings, and first errors.
use Rattle.std.specs.Prelude.{◌≡◌, ◌==◌, ◌&&◌, ◌+◌, ℕ, ◌≤◌, ◌<◌, ◌^◌, nat_le, ℤ, pos, Bool, List, ◌++◌, Option, None}
use Rattle.std.specs.List.{flat_map, AllByRecursion}
use Rattle.std.specs.Option.{IfSome}
use Rattle.std.specs.Str.{IsAscii}
use Rattle.krb_der_core.specs.BitString.{IsBits, bits_content}
use Rattle.krb_der_core.specs.Encoding.{IsElement, IsOctets, optional}
use Rattle.krb_der_core.specs.Errors.{PrefixError, PrimitiveError, RowError, TaggedError, ValueError, WholeError}
use Rattle.krb_der_core.specs.GeneralizedTime.{IsRealTime, time_content}
use Rattle.krb_der_core.specs.Integer.{shortest}
use Rattle.krb_der_core.specs.Primitive.{bool_content}
use Rattle.krb_der_core.specs.Tlv.{tlv}
use Rattle.krb_der_core.specs.declared.error.Asn1DerError.{Asn1DerError}
use Rattle.krb_der.specs.declared.optional.Optional.{Optional}
use Rattle.krb_der.specs.FieldErrors.{IsAbsent, NumberError, OptionalError, PairError}
use Rattle.krb_der_x509.specs.ObjectIdentifier.{IsArcs, arcs_content}
use Rattle.krb_der_x509.specs.ObjectIdentifierErrors.{ArcsError}
use Rattle.krb_der_x509.specs.RawValue.{RawError, is_raw_first}

-- values, which of them have an encoding, it, with which octets it may begin, and the first error of an element
pub record Reader : Type 1 where
  pub value : Type 0
  pub valid : value → Type 0
  pub enc : value → List ℕ
  pub first : ℕ → Bool
  pub error : ℕ → List ℕ → Asn1DerError → Type 0

-- fields in order: values, their encodings, where they end, and the first error of octets that are to begin with them
pub record Fields : Type 1 where
  pub value : Type 0
  pub valid : value → Type 0
  pub octets : value → List ℕ
  pub ends : value → List ℕ → Type 0
  pub error : List ℕ → Asn1DerError → Type 0

-- the first error of octets that are to be one encoding, all of them
abbrev pub whole_error : Reader → List ℕ → Asn1DerError → Type 0
whole_error r = ValueError r.valid r.enc r.first r.error

-- ---- elements without elements

abbrev pub primitive : {A : Type 0} → ℕ → (A → Type 0) → (A → List ℕ) → Reader
primitive {A} tag is_value content_of = record {
  value = A;
  valid = is_value;
  enc = λ v. tlv tag (content_of v);
  first = λ t. t == tag;
  error = PrimitiveError tag is_value content_of;
}

abbrev pub integer : Reader
integer = primitive {A = ℤ} 2 (λ v. Unit {0}) shortest

abbrev pub unsigned : Reader
unsigned = primitive {A = ℕ} 2 (λ v. v < 2 ^ 32) (λ v. shortest (pos v))

abbrev pub bits : Reader
bits = primitive 3 IsBits bits_content

abbrev pub octets : Reader
octets = primitive 4 IsOctets (λ v. v)

abbrev pub text : Reader
text = primitive 27 IsAscii (λ v. v)

abbrev pub time : Reader
time = primitive 24 IsRealTime time_content

abbrev pub truth : Reader
truth = primitive {A = Bool} 1 (λ v. Unit {0}) bool_content

abbrev pub identifier : Reader
identifier = record { value = List ℕ; valid = IsArcs; enc = λ v. tlv 6 (arcs_content v); first = λ t. t == 6; error = TaggedError 6 ArcsError }

abbrev pub any : Reader
any = record { value = List ℕ; valid = IsElement is_raw_first; enc = λ v. v; first = is_raw_first; error = RawError }

-- an OCTET STRING whose tag is another's (IMPLICIT; X.690, 8.14.3)
abbrev pub octets_under : ℕ → Reader
octets_under tag = record {
  value = List ℕ;
  valid = λ v. IsOctets v × (tlv 4 v ≡ tlv 4 v);
  enc = λ v. tlv tag v;
  first = λ t. t == tag;
  error = TaggedError tag (PrimitiveError 4 IsOctets (λ v. v) 4);
}

-- ---- elements of elements

-- in an explicit tag
abbrev pub explicit : ℕ → Reader → Reader
explicit tag r = record { value = r.value; valid = r.valid; enc = λ v. tlv tag (r.enc v); first = λ t. t == tag; error = TaggedError tag (whole_error r) }

-- under an application tag of this number
abbrev pub application : ℕ → Reader → Reader
application n r = record {
  value = r.value;
  valid = λ v. r.valid v × (n ≤ 30);
  enc = λ v. tlv (96 + n) (r.enc v);
  first = λ t. nat_le n 30 && t == 96 + n;
  error = NumberError n (TaggedError (96 + n) (whole_error r));
}

-- a SEQUENCE OF
abbrev pub sequence_of : Reader → Reader
sequence_of r = record {
  value = List r.value;
  valid = AllByRecursion r.valid;
  enc = λ v. tlv 48 (flat_map r.enc v);
  first = λ t. t == 48;
  error = TaggedError 48 (RowError r.valid r.enc (PrefixError r.first r.error));
}

-- a SEQUENCE of the fields that values have
abbrev pub sequence : {A : Type 0} (f : Fields) → (A → f.value) → Reader
sequence {A} f fields_of = record {
  value = A;
  valid = λ v. f.valid (fields_of v);
  enc = λ v. tlv 48 (f.octets (fields_of v));
  first = λ t. t == 48;
  error = TaggedError 48 (WholeError f.valid f.octets f.ends f.error);
}

-- ---- fields

-- one that is there, and one that may be absent
abbrev pub one : Reader → Fields
one r = record { value = r.value; valid = r.valid; octets = r.enc; ends = λ v rest. Unit {0}; error = PrefixError r.first r.error }

abbrev pub maybe : Reader → Fields
maybe r = record {
  value = Optional (Option r.value);
  valid = λ v. IfSome v.0 r.valid;
  octets = λ v. optional r.enc v.0;
  ends = λ v rest. v.0 ≡ None → IsAbsent r.first rest;
  error = OptionalError r.first r.error;
}

-- fields, and fields behind them, as tuples are grouped
abbrev pub pair : Fields → Fields → Fields
pair l r = record {
  value = l.value × r.value;
  valid = λ v. l.valid v.0 × r.valid v.1;
  octets = λ v. l.octets v.0 ++ r.octets v.1;
  ends = λ v rest. l.ends v.0 (r.octets v.1 ++ rest) × r.ends v.1 rest;
  error = PairError l.valid l.octets l.ends l.error r.error;
}

abbrev pub triple : Fields → Fields → Fields → Fields
triple a b c = record {
  value = a.value × b.value × c.value;
  valid = λ v. a.valid v.0 × b.valid v.1 × c.valid v.2;
  octets = λ v. a.octets v.0 ++ b.octets v.1 ++ c.octets v.2;
  ends = λ v. (pair (pair a b) c).ends ((v.0, v.1), v.2);
  error = (pair (pair a b) c).error;
}

abbrev pub four : Fields → Fields → Fields → Fields → Fields
four a b c d = record {
  value = a.value × b.value × c.value × d.value;
  valid = λ v. a.valid v.0 × b.valid v.1 × c.valid v.2 × d.valid v.3;
  octets = λ v. a.octets v.0 ++ b.octets v.1 ++ c.octets v.2 ++ d.octets v.3;
  ends = λ v. (pair (triple a b c) d).ends ((v.0, v.1, v.2), v.3);
  error = (pair (triple a b c) d).error;
}

abbrev pub five : Fields → Fields → Fields → Fields → Fields → Fields
five a b c d e = record {
  value = a.value × b.value × c.value × d.value × e.value;
  valid = λ v. a.valid v.0 × b.valid v.1 × c.valid v.2 × d.valid v.3 × e.valid v.4;
  octets = λ v. a.octets v.0 ++ b.octets v.1 ++ c.octets v.2 ++ d.octets v.3 ++ e.octets v.4;
  ends = λ v. (pair (four a b c d) e).ends ((v.0, v.1, v.2, v.3), v.4);
  error = (pair (four a b c d) e).error;
}

abbrev pub six : Fields → Fields → Fields → Fields → Fields → Fields → Fields
six a b c d e f = record {
  value = a.value × b.value × c.value × d.value × e.value × f.value;
  valid = λ v. a.valid v.0 × b.valid v.1 × c.valid v.2 × d.valid v.3 × e.valid v.4 × f.valid v.5;
  octets = λ v. a.octets v.0 ++ b.octets v.1 ++ c.octets v.2 ++ d.octets v.3 ++ e.octets v.4 ++ f.octets v.5;
  ends = λ v. (pair (five a b c d e) f).ends ((v.0, v.1, v.2, v.3, v.4), v.5);
  error = (pair (five a b c d e) f).error;
}
