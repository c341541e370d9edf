-- Whether octets are elements, all of them or those at the start (X.690, 8.1.1).
use Rattle.std.specs.Prelude.{◌≡◌, ℕ, List, [], ◌++◌}
use Rattle.krb_schema.specs.declared.shape.Name.{Name}
use Rattle.krb_schema.specs.declared.shape.Schema.{Schema}
use Rattle.krb_schema.specs.Forests.{Forest, enc}
use Rattle.krb_schema.specs.Shapes.{IsElement}

-- the octets are the encoding of right elements, and nothing else
abbrev pub Encodes : (Forest → Type 0) → List ℕ → Type 0
Encodes IsRight octets = (f : Forest) × IsRight f × (octets ≡ enc f)

-- they begin with it, and this is the rest
abbrev pub EncodesFront : (Forest → Type 0) → List ℕ → List ℕ → Type 0
EncodesFront IsRight octets rest = (f : Forest) × IsRight f × (octets ≡ enc f ++ rest)

-- they are one element of this row, which is called so, at most 64 levels deep
abbrev pub IsEncoding : Schema → ℕ → Name → List ℕ → Type 0
IsEncoding schema is name octets = Encodes (IsElement 64 schema is name []) octets
