-- How octets of a type of the table are read and shown: by the row of the type, as the tokens of their items.
use Rattle.std.specs.Prelude.{◌≡◌, ◌⊎◌, ℕ, List, [], Some, Result, IfOk, IfErr}
use Rattle.krb_der_core.specs.declared.error.Asn1DerError.{Asn1DerError}
use Rattle.krb_der_core.specs.declared.error.Asn1DerError.TheVariants as errors
use Rattle.krb_der.specs.Whole.{NoDevice}
use Rattle.krb_schema.specs.Named.{row_in}
use Rattle.krb_schema.specs.Types.{types}
use Rattle.krb_schema.specs.declared.item.Fault.{Fault}
use Rattle.krb_schema.specs.declared.item.Fault.TheVariants as faults
use Rattle.krb_schema.specs.declared.item.Item.{Item}
use Rattle.krb_show.specs.Items.{shown, start}
use Rattle.krb_show.specs.RowWalk.{AreItemsOf, IsShownByRow, IsWalkBy}
use Rattle.krb_show.specs.Tokens.{Label, Token}
use Rattle.krb_show.specs.declared.rows.stand.Secrets.TheVariants as secrets
use Rattle.krb_show.specs.declared.rows.walk.Walk.{Walk}
use Rattle.krb_show.specs.declared.rows.walk.Walk.TheVariants as walks
use Rattle.krb_show_messages.specs.Formats.{formats_of}

-- octets called so, by the row of this name
abbrev pub row_shown : List ℕ → List ℕ → List ℕ → List Token → List Token → Type 0
row_shown row text octets = IsShownByRow formats_of row text octets

-- a value of these encodings under a label, by the row of this name
abbrev pub shows_of : {A : Type 0} → List ℕ → (A → List ℕ) → Label → A → List Token → List Token → Type 0
shows_of row enc label v = row_shown row label.text (enc v)

-- the tokens of items
abbrev pub items_shown : List ℕ → List Item → List Token → List Token → Type 0
items_shown octets items = shown formats_of octets items (start secrets.Shown)

-- ---- octets that are read by a row

-- there is a row of this name, and the octets are one element of it, called so
pub record IsElementBy (row_name text octets : List ℕ) : Type 0 where
  pub is : ℕ
  pub row : row_in types row_name ≡ Some is
  pub items : List Item
  pub are : AreItemsOf text is octets items

-- the error of DER that a fault is
abbrev pub reason_of : Fault → Asn1DerError
reason_of (faults.Refused why at) = why
reason_of faults.OutOfMemory = errors.OutOfMemory
reason_of fault = errors.InvalidData

-- the error of a walk: there is no such row, or the octets are no element of it, and this is their first fault
abbrev pub is_error : Walk → Asn1DerError → Type 0
is_error (walks.Items items) e = ⊥
is_error walks.NoRow e = e ≡ errors.InvalidData
is_error (walks.Fault fault) e = e ≡ reason_of fault

-- why octets are refused by the row of this name: an allocation failed, or their walk has this error
abbrev pub IsRefusedBy : List ℕ → List ℕ → List ℕ → Asn1DerError → Type 0
IsRefusedBy row text octets e = (e ≡ errors.OutOfMemory) ⊎ ((walk : Walk) × IsWalkBy row text octets walk × is_error walk e)

-- ---- pages

-- What is answered of octets by the row of this name, called so: where a page is answered, they are one element of the row, and it is shown so; where they
-- are refused, they are none, or an allocation failed. So they are answered exactly if they are an element, memory aside.
pub record IsRowPage {P : Type 0} (row text : List ℕ) (shows : List Token → List Token → Type 0) (tokens : P → List Token) (octets : List ℕ)
    (result : Result P Asn1DerError) : Type 0 where
  pub found : IfOk result (λ p. IsElementBy row text octets × shows [] (tokens p))
  pub refused : IfErr result (IsRefusedBy row text octets)
  pub no_device : IfErr result NoDevice

-- the same of octets whose page is that of the element
abbrev pub IsPageByRow : {P : Type 0} → List ℕ → List ℕ → (P → List Token) → List ℕ → Result P Asn1DerError → Type 0
IsPageByRow row text tokens octets result = IsRowPage row text (row_shown row text octets) tokens octets result
