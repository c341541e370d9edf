-- Octets of a type, by its row in the table of `krb_schema`.
use Rattle.std.specs.Prelude.{◌≡◌, ℕ, List, [], Some}
use Rattle.krb_schema.specs.Named.{IsKerberos, row_in}
use Rattle.krb_schema.specs.Shapes.{IsElement, IsNone}
use Rattle.krb_schema.specs.Types.{types}
use Rattle.krb_schema.specs.Walks.{Walked}
use Rattle.krb_schema.specs.declared.item.Item.{Item}
use Rattle.krb_schema.specs.declared.shape.Name.{Name}
use Rattle.krb_schema.specs.declared.shape.Schema.{Schema}

-- the row of the type in the table, whose outermost element is called as the type
pub record IsRow (kind : List ℕ) (row : ℕ) (schema : Schema) (name : Name) : Type 0 where
  pub known : row_in types kind ≡ Some row
  pub rows : IsKerberos schema
  pub named : name.text.now ≡ kind

-- the octets are one element of the type, of these items
pub record AreItemsOf (kind octets : List ℕ) (items : List Item) : Type 0 where
  pub row : ℕ
  pub schema : Schema
  pub name : Name
  pub of_row : IsRow kind row schema name
  pub walked : Walked (IsElement 64 schema row name []) octets 0 0 [] items

-- they are none, which only octets of a type with a row are
pub record IsNoElement (row : ℕ) (kind octets : List ℕ) : Type 0 where
  pub schema : Schema
  pub name : Name
  pub of_row : IsRow kind row schema name
  pub none : IsNone (IsElement 64 schema row name []) octets

abbrev pub IsOfNo : List ℕ → List ℕ → Type 0
IsOfNo kind octets = (row : ℕ) → row_in types kind ≡ Some row → IsNoElement row kind octets
