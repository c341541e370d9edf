-- The schema of Kerberos, and rows of types by name.
use Rattle.std.specs.Prelude.{◌≡◌, ◌==◌, ℕ, Bool, List, [], ◌∷◌, Option, None, Some, if◌then◌else◌, map, option_map}
use Rattle.std.specs.Cmp.Lexicographic.{pointwise}
use Rattle.krb_registry.specs.declared.kind.Kind.{Kind}
use Rattle.krb_schema.specs.declared.shape.Case.{Case}
use Rattle.krb_schema.specs.declared.shape.Field.{Field}
use Rattle.krb_schema.specs.declared.shape.Name.{Name}
use Rattle.krb_schema.specs.declared.shape.Role.{Role}
use Rattle.krb_schema.specs.declared.shape.Schema.{Schema}
use Rattle.krb_schema.specs.Types.{cases, fields, shapes}

-- a field: its first octet, whether this is an explicit tag, whether it is optional, its name, its registry, its role
-- and its row
abbrev pub field_row : Field → Option ℕ × Bool × Bool × List ℕ × Option Kind × Role × ℕ
field_row f = (f.tag, f.wrapped, f.optional, f.name.text.now, f.name.registry, f.name.role, f.is)

-- a name: its text, its registry and its role
abbrev pub name_row : Name → List ℕ × Option Kind × Role
name_row n = (n.text.now, n.registry, n.role)

-- a case: the number that the field before has, the name of its own, if it has one, and its row
abbrev pub case_row : Case → Option ℕ × Option (List ℕ × Option Kind × Role) × ℕ
case_row c = (c.behind, option_map name_row c.name, c.is)

-- the schema of the types that this library reads
pub record IsKerberos (schema : Schema) : Type 0 where
  pub rows : schema.shapes.now ≡ shapes
  pub parts : map field_row schema.fields.now ≡ fields
  pub held : map case_row schema.cases.now ≡ cases

-- the row of the first type of this name
abbrev pub row_in : List (List ℕ × ℕ) → List ℕ → Option ℕ
row_in [] name = None
row_in (row ∷ rows) name = if pointwise ◌==◌ row.0 name then Some row.1 else row_in rows name
