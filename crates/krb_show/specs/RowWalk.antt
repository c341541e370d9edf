-- What a walk of octets by the row of a type comes to, and how octets are shown by it.
use Rattle.std.specs.Prelude.{◌≡◌, ℕ, None, Some, List, []}
use Rattle.krb_schema.specs.Faults.{IsFault, IsWholeFault}
use Rattle.krb_schema.specs.Named.{IsKerberos, row_in}
use Rattle.krb_schema.specs.Shapes.{IsElement, IsNone}
use Rattle.krb_schema.specs.Types.{types}
use Rattle.krb_schema.specs.Walks.{Walked}
use Rattle.krb_schema.specs.declared.item.Fault.{Fault}
use Rattle.krb_schema.specs.declared.item.Item.{Item}
use Rattle.krb_schema.specs.declared.shape.Name.{Name}
use Rattle.krb_schema.specs.declared.shape.Role.{Role}
use Rattle.krb_schema.specs.declared.shape.Role.TheVariants as roles
use Rattle.krb_schema.specs.declared.shape.Schema.{Schema}
use Rattle.krb_show.specs.Leaves.{octets_of}
use Rattle.krb_show.specs.Tokens.{Label, Token, plain}
use Rattle.krb_show.specs.Items.{shown, start}
use Rattle.krb_show.specs.declared.rows.stand.Secrets.TheVariants as secrets
use Rattle.krb_show.specs.declared.rows.walk.Walk.{Walk}
use Rattle.krb_show.specs.declared.rows.walk.Walk.TheVariants as walks

-- The rows are those of the table, and the outermost element is called so and nothing more.
pub record IsTable (text : List ℕ) (schema : Schema) (name : Name) : Type 0 where
  pub rows : IsKerberos schema
  pub text_is : name.text.now ≡ text
  pub no_registry : name.registry ≡ None
  pub no_role : name.role ≡ roles.None

-- the octets are one element of this row, and these are its items
pub record AreItemsOf (text : List ℕ) (row : ℕ) (octets : List ℕ) (items : List Item) : Type 0 where
  pub schema : Schema
  pub name : Name
  pub table : IsTable text schema name
  pub walked : Walked (IsElement 64 schema row name []) octets 0 0 [] items

-- the octets are no element of this row, and this is their first fault, with its place
pub record IsFirstFault (text : List ℕ) (row : ℕ) (octets : List ℕ) (fault : Fault) : Type 0 where
  pub schema : Schema
  pub name : Name
  pub table : IsTable text schema name
  pub none : IsNone (IsElement 64 schema row name []) octets
  pub first : IsWholeFault (IsElement 64 schema row name []) (IsFault 64 schema row name []) 0 octets fault

-- what a walk of octets by the row of a name comes to, whose outermost element is called so
abbrev pub IsWalkBy : List ℕ → List ℕ → List ℕ → Walk → Type 0
IsWalkBy row_name text octets walks.NoRow = row_in types row_name ≡ None
IsWalkBy row_name text octets (walks.Items items) = (row : ℕ) × (row_in types row_name ≡ Some row) × AreItemsOf text row octets items.items
IsWalkBy row_name text octets (walks.Fault fault) = (row : ℕ) × (row_in types row_name ≡ Some row) × IsFirstFault text row octets fault

-- what octets add by a walk: the tokens of its items; and where they are no element of the row, octets
abbrev pub walk_shown : (Role → List ℕ → Label → List ℕ → List Token → List Token → Type 0) → List ℕ → List ℕ → Walk → List Token → List Token → Type 0
walk_shown tells text octets (walks.Items items) = shown tells octets items.items (start secrets.Shown)
walk_shown tells text octets walk = octets_of (plain text) octets

-- what octets add by the row of a name, called so
pub record IsShownByRow (tells : Role → List ℕ → Label → List ℕ → List Token → List Token → Type 0) (row_name text octets : List ℕ)
    (old new : List Token) : Type 0 where
  pub walk : Walk
  pub is_walk : IsWalkBy row_name text octets walk
  pub shown : walk_shown tells text octets walk old new
