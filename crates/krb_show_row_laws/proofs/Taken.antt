-- What is answered of octets by a type's row.
use Rattle.std.proofs.Common.{◌≡◌, ◌⊎◌, inl, inr, ℕ, ◌<◌, ◌^◌, sym, ap, subst, ◌∙◌, List, [], Option, None, Some, Result, Ok, Err, length}
use Rattle.std.specs.Prelude.{MatchResult, Vec, unwrap_or}
use Rattle.std.specs.declared.alloc.Global.{Global}
use Rattle.krb_der_core.specs.Encoding.{IsOctets}
use Rattle.krb_der_core.specs.declared.der.DerEncode.{Ghosts as EncodingOf}
use Rattle.krb_der_core.specs.declared.error.Asn1DerError.{Asn1DerError}
use Rattle.krb_der_core.specs.declared.error.Asn1DerError.TheVariants as errors
use Rattle.krb_schema.specs.declared.item.Fault.{Fault}
use Rattle.krb_schema.specs.declared.item.Fault.TheVariants as faults
use Rattle.krb_schema.specs.declared.shape.Name.{Name}
use Rattle.krb_schema.specs.declared.shape.Schema.{Schema}
use Rattle.krb_schema.specs.Faults.{IsFault, IsWholeFault}
use Rattle.krb_schema.specs.Forests.{Forest, enc}
use Rattle.krb_schema.specs.Named.{IsKerberos, row_in}
use Rattle.krb_schema.specs.Shapes.{IsElement, IsNone}
use Rattle.krb_schema.specs.Types.{types}
use Rattle.krb_show.specs.RowWalk.{IsWalkBy}
use Rattle.krb_show.specs.Tokens.{Token}
use Rattle.krb_show.specs.declared.rows.walk.Walk.{Walk}
use Rattle.krb_show.specs.declared.rows.walk.Walk.TheVariants as walks
use Rattle.krb_show_messages.specs.Shown.{IsElementBy, IsRefusedBy, IsRowPage, is_error, reason_of}
use Rattle.krb_show_row_laws.specs.Ties.{HasItsRow, IsEncoding, IsFirstError, PagesHaveErrors, RowHasErrors, RowTakesEncodings}

one_row : (found : Option ℕ) (m n : ℕ) → found ≡ Some m → found ≡ Some n → m ≡ n
one_row found m n p q = ap (λ (o : Option ℕ). unwrap_or o 0) (sym p ∙ q)

no_row : (n : ℕ) → (let o : Option ℕ = None in o ≡ Some n) → ⊥
no_row n e = cc

-- These octets and no others are elements of the row.
pub record AreOfRow (Is : List ℕ → Type 0) (schema : Schema) (row : ℕ) (name : Name) : Type 0 where
  pub read : (octets : List ℕ) → Is octets → IsNone (IsElement 64 schema row name []) octets → ⊥
  pub walked : (octets : List ℕ) → IsOctets octets → (f : Forest) → IsElement 64 schema row name [] f → octets ≡ enc f → Is octets

-- so they are answered, and no others, memory aside
abbrev pub AreTaken : (List ℕ → Type 0) → List ℕ → Result (Vec Token Global) Asn1DerError → Type 0
AreTaken Is octets result = MatchResult result (λ page. Is octets) (λ e. Is octets → e ≡ errors.OutOfMemory)

module _ (Is : List ℕ → Type 0) (row_name : List ℕ) (row : ℕ) (is : row_in types row_name ≡ Some row)
    (ties : (schema : Schema) (name : Name) → IsKerberos schema → AreOfRow Is schema row name) where
  tie_at : (n : ℕ) → row_in types row_name ≡ Some n → (schema : Schema) (name : Name) → IsKerberos schema → AreOfRow Is schema n name
  tie_at n e schema name kerberos =
      subst (λ (m : ℕ). AreOfRow Is schema m name) (one_row (row_in types row_name) row n is e) (ties schema name kerberos)

  element_is : (text octets : List ℕ) → IsOctets octets → IsElementBy row_name text octets → Is octets
  element_is text octets small e =
      let a = e.are in
      let w = a.walked in
      (tie_at e.is e.row a.schema a.name a.table.rows).walked octets small w.0 w.1 w.2

  error_is_not : (text octets : List ℕ) (walk : Walk) (e : Asn1DerError) → IsWalkBy row_name text octets walk → is_error walk e → Is octets → ⊥
  error_is_not text octets (walks.Items items) e w h v = absurd h
  error_is_not text octets walks.NoRow e w h v = no_row row (sym w ∙ is)
  error_is_not text octets (walks.Fault fault) e w h v =
      let f = w.2 in (tie_at w.0 w.1 f.schema f.name f.table.rows).read octets v f.none

  refused_memory : (text octets : List ℕ) (e : Asn1DerError) → IsRefusedBy row_name text octets e → Is octets → e ≡ errors.OutOfMemory
  refused_memory text octets e (inl m) v = m
  refused_memory text octets e (inr (walk, w, r)) v = absurd (error_is_not text octets walk e w r v)

  pub are_taken : (text octets : List ℕ) (shows : List Token → List Token → Type 0) (result : Result (Vec Token Global) Asn1DerError) → IsOctets octets
      → IsRowPage row_name text shows (λ p. p.items) octets result → AreTaken Is octets result
  are_taken text octets shows (Ok page) small w = element_is text octets small w.found.0
  are_taken text octets shows (Err e) small w = refused_memory text octets e w.refused

pub row_takes : {A : Type 0} (t : EncodingOf A) (row_name : List ℕ) → HasItsRow t row_name → RowTakesEncodings t row_name
row_takes t row_name (row, is, ties) text octets result small w =
    are_taken (IsEncoding t) row_name row is
    (λ schema name kerberos. record { read = (ties schema name kerberos).read; walked = (ties schema name kerberos).walked }) text octets _ result small w

-- ---- errors

-- the first fault of octets by the row is an error that is so, at a place
abbrev pub HaveErrors : (List ℕ → Asn1DerError → Type 0) → Schema → ℕ → Name → Type 0
HaveErrors Is schema row name = (octets : List ℕ) (fault : Fault) → IsOctets octets → length octets < 2 ^ 64
    → IsWholeFault (IsElement 64 schema row name []) (IsFault 64 schema row name []) 0 octets fault
    → (why : Asn1DerError) × (at : ℕ) × (fault ≡ faults.Refused why at) × Is octets why

module _ (Is : List ℕ → Asn1DerError → Type 0) (row_name : List ℕ) (row : ℕ) (is : row_in types row_name ≡ Some row)
    (ties : (schema : Schema) (name : Name) → IsKerberos schema → HaveErrors Is schema row name) where
  errors_at : (n : ℕ) → row_in types row_name ≡ Some n → (schema : Schema) (name : Name) → IsKerberos schema → HaveErrors Is schema n name
  errors_at n e schema name kerberos =
      subst (λ (m : ℕ). HaveErrors Is schema m name) (one_row (row_in types row_name) row n is e) (ties schema name kerberos)

  walk_error : (text octets : List ℕ) → IsOctets octets → length octets < 2 ^ 64 → (walk : Walk) (e : Asn1DerError) → IsWalkBy row_name text octets walk
      → is_error walk e → Is octets e
  walk_error text octets small less (walks.Items items) e w h = absurd h
  walk_error text octets small less walks.NoRow e w h = absurd (no_row row (sym w ∙ is))
  walk_error text octets small less (walks.Fault fault) e w h =
      let f = w.2 in
      let r = errors_at w.0 w.1 f.schema f.name f.table.rows octets fault small less f.first in
      subst (Is octets) (sym (h ∙ ap reason_of r.2)) r.3

  pub refused_as : (text octets : List ℕ) (e : Asn1DerError) → IsOctets octets → length octets < 2 ^ 64 → IsRefusedBy row_name text octets e
      → (e ≡ errors.OutOfMemory) ⊎ Is octets e
  refused_as text octets e small less (inl m) = inl m
  refused_as text octets e small less (inr (walk, w, r)) = inr (walk_error text octets small less walk e w r)

pub row_errors : {A : Type 0} (t : EncodingOf A) (row_name : List ℕ) → HasItsRow t row_name → RowHasErrors t row_name
row_errors t row_name (row, is, ties) = refused_as (IsFirstError t) row_name row is (λ schema name kerberos. (ties schema name kerberos).refused)

pub page_errors : {A : Type 0} (t : EncodingOf A) (row_name : List ℕ) → HasItsRow t row_name → PagesHaveErrors t row_name
page_errors t row_name has text octets (Ok page) small less w = tt
page_errors t row_name has text octets (Err e) small less w = row_errors t row_name has text octets e small less w.refused
