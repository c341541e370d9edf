-- That a type has the encodings that its row of the table allows, and the errors of the walk, and what that makes of answers by the row.
use Rattle.std.specs.Prelude.{◌≡◌, ◌⊎◌, ◌<◌, ◌^◌, ℕ, List, [], IfErr, MatchResult, Result, Some, Vec, length}
use Rattle.std.specs.declared.alloc.Global.{Global}
use Rattle.krb_der.specs.Whole.{IsNotRead, NoDevice}
use Rattle.krb_der_core.specs.Encoding.{IsOctets}
use Rattle.krb_der_core.specs.Errors.{ValueError}
use Rattle.krb_der_core.specs.declared.error.Asn1DerError.{Asn1DerError}
use Rattle.krb_der_core.specs.declared.error.Asn1DerError.TheVariants as errors
use Rattle.krb_der_core.specs.declared.der.DerEncode.{Ghosts as EncodingOf}
use Rattle.krb_schema.specs.declared.item.Fault.{Fault}
use Rattle.krb_schema.specs.declared.item.Fault.TheVariants as faults
use Rattle.krb_schema.specs.declared.shape.Name.{Name}
use Rattle.krb_schema.specs.declared.shape.Schema.{Schema}
use Rattle.krb_schema.specs.Faults.{IsFault, IsWholeFault}
use Rattle.krb_schema.specs.Forests.{Forest, enc}
use Rattle.krb_schema.specs.Named.{IsKerberos, row_in}
use Rattle.krb_schema.specs.Shapes.{IsElement, IsNone}
use Rattle.krb_schema.specs.Types.{types}
use Rattle.krb_show.specs.Tokens.{Token}
use Rattle.krb_show_messages.specs.Shown.{IsPageByRow, IsRefusedBy}
use Rattle.krb_show_pages.specs.Choices.{IsReplyTold}

-- the octets are the encoding of a value
abbrev pub IsEncoding : {A : Type 0} → EncodingOf A → List ℕ → Type 0
IsEncoding {A} t octets = (v : A) × t.is_value v × (octets ≡ t.enc v)

-- Why octets are the encoding of no value of the type, as `from_bytes` tells it: by their first error, and no other is their first; no device failed.
pub record IsFirstError {A : Type 0} (t : EncodingOf A) (octets : List ℕ) (e : Asn1DerError) : Type 0 where
  pub not_read : IsNotRead t octets e
  pub only : (other : Asn1DerError) → ValueError t.is_value t.enc t.first t.error octets other → other ≡ e
  pub no_device : NoDevice e

-- a fault of the walk is that error, at a place
abbrev pub IsErrorAt : {A : Type 0} → EncodingOf A → List ℕ → Fault → Type 0
IsErrorAt t octets fault = (why : Asn1DerError) × (at : ℕ) × (fault ≡ faults.Refused why at) × IsFirstError t octets why

-- Of octets that are an encoding of the type it does not hold that they are no element of the row, which a walk that refuses them says; an element of the
-- row is an encoding; and of fewer than 2^64 octets the first fault by the row is the first error of the type.
pub record IsRowOf {A : Type 0} (t : EncodingOf A) (schema : Schema) (row : ℕ) (name : Name) : Type 0 where
  pub read : (octets : List ℕ) → IsEncoding t octets → IsNone (IsElement 64 schema row name []) octets → ⊥
  pub walked : (octets : List ℕ) → IsOctets octets → (f : Forest) → IsElement 64 schema row name [] f → octets ≡ enc f → IsEncoding t octets
  pub refused : (octets : List ℕ) (fault : Fault) → IsOctets octets → length octets < 2 ^ 64
      → IsWholeFault (IsElement 64 schema row name []) (IsFault 64 schema row name []) 0 octets fault → IsErrorAt t octets fault

-- There is a row of this name, and it is the type's.
abbrev pub HasItsRow : {A : Type 0} → EncodingOf A → List ℕ → Type 0
HasItsRow t row_name =
    (row : ℕ) × (row_in types row_name ≡ Some row) × ((schema : Schema) (name : Name) → IsKerberos schema → IsRowOf t schema row name)

-- ---- answers

-- a page is answered exactly if the octets are an encoding of the type, memory aside
abbrev pub IsTaken : {A : Type 0} → EncodingOf A → List ℕ → Result (Vec Token Global) Asn1DerError → Type 0
IsTaken t octets result = MatchResult result (λ page. IsEncoding t octets) (λ e. IsEncoding t octets → e ≡ errors.OutOfMemory)

-- that is so of whatever is answered of octets by the row of this name
abbrev pub RowTakesEncodings : {A : Type 0} → EncodingOf A → List ℕ → Type 0
RowTakesEncodings t row = (text octets : List ℕ) (result : Result (Vec Token Global) Asn1DerError) → IsOctets octets
    → IsPageByRow row text (λ p. p.items) octets result → IsTaken t octets result

-- The error with which octets are refused by the row of this name is the first error of the type, memory aside; and so is that of a page.
abbrev pub IsRefusedAs : {A : Type 0} → EncodingOf A → List ℕ → Asn1DerError → Type 0
IsRefusedAs t octets e = (e ≡ errors.OutOfMemory) ⊎ IsFirstError t octets e

abbrev pub RowHasErrors : {A : Type 0} → EncodingOf A → List ℕ → Type 0
RowHasErrors t row = (text octets : List ℕ) (e : Asn1DerError) → IsOctets octets → length octets < 2 ^ 64 → IsRefusedBy row text octets e
    → IsRefusedAs t octets e

abbrev pub PagesHaveErrors : {A : Type 0} → EncodingOf A → List ℕ → Type 0
PagesHaveErrors t row = (text octets : List ℕ) (result : Result (Vec Token Global) Asn1DerError) → IsOctets octets → length octets < 2 ^ 64
    → IsPageByRow row text (λ p. p.items) octets result → IfErr result (IsRefusedAs t octets)

-- and of whatever is answered of octets in the place of a PA-PK-AS-REP (RFC 4556, 3.2.3), which this type is
abbrev pub RepliesTakeEncodings : {A : Type 0} → EncodingOf A → Type 0
RepliesTakeEncodings t = (octets : List ℕ) (result : Result (Vec Token Global) Asn1DerError) → IsOctets octets → IsReplyTold (λ p. p.items) octets result
    → IsTaken t octets result

abbrev pub RepliesHaveErrors : {A : Type 0} → EncodingOf A → Type 0
RepliesHaveErrors t = (octets : List ℕ) (result : Result (Vec Token Global) Asn1DerError) → IsOctets octets → length octets < 2 ^ 64
    → IsReplyTold (λ p. p.items) octets result → IfErr result (IsRefusedAs t octets)
