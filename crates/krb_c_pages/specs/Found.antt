-- What stands before an item, and the keys among items: the rules of `krb_decrypt` for tokens (`specs/Preceding.antt` there), over items.
use Rattle.std.specs.Prelude.{ℕ, ℤ, pos, nat_lt, if◌then◌else◌, Bool, true, false, List, [], ◌∷◌, ◌++◌, Option, None, Some}
use Rattle.std.specs.Option.{option_map}
use Rattle.krb_decrypt.specs.Keys.{NamedKey, suite_of}
use Rattle.krb_decrypt.specs.Preceding.{in_list, named_key}
use Rattle.krb_decrypt.specs.declared.preceding.Preceding.{Preceding}
use Rattle.krb_registry.specs.declared.kind.Kind.{Kind}
use Rattle.krb_registry.specs.declared.kind.Kind.TheVariants as kinds
use Rattle.krb_schema.specs.Rules.{content_of}
use Rattle.krb_schema.specs.declared.item.Form.{Form}
use Rattle.krb_schema.specs.declared.item.Form.TheVariants as form
use Rattle.krb_schema.specs.declared.item.Item.{Item}
use Rattle.krb_schema.specs.declared.item.Node.TheVariants as nodes
use Rattle.krb_schema.specs.declared.shape.Leaf.TheVariants as leaves
use Rattle.krb_schema.specs.declared.shape.Role.{Role}
use Rattle.krb_schema.specs.declared.shape.Role.TheVariants as roles

-- the numbers are encryption types (RFC 3961, 8)
abbrev pub are_types : Option Kind → Bool
are_types (Some kinds.EncryptionType) = true
are_types other = false

-- the number whose INTEGER has this content (X.690, 8.3), if it is one from 0 to 127: no other is the encryption type of a suite
abbrev pub type_in : List ℕ → Option ℤ
type_in [] = None
type_in (n ∷ []) = if nat_lt n 128 then Some (pos n) else None
type_in (n ∷ m ∷ rest) = None

-- what stands before the item behind one: behind a struct that begins there, and behind a number that is an encryption type
abbrev pub behind_form : Form → List ℕ → Item → Preceding → Preceding
behind_form (form.Begin nodes.Struct) octets i p = record { role = i.name.role; etype = p.etype }
behind_form (form.Leaf kind) octets i p = if are_types i.name.registry then record { role = p.role; etype = type_in (content_of octets i) } else p
behind_form other octets i p = p

abbrev pub behind : List ℕ → Item → Preceding → Preceding
behind octets i p = behind_form i.form octets i p

-- the name of the struct that began last
abbrev pub name_by_form : Form → Item → List ℕ → List ℕ
name_by_form (form.Begin nodes.Struct) i name = i.name.text.now
name_by_form other i name = name

abbrev pub name_behind : Item → List ℕ → List ℕ
name_behind i name = name_by_form i.form i name

-- ---- keys (RFC 4120, 5.2.9)

abbrev pub is_key : Form → Role → Bool
is_key (form.Leaf leaves.Secret) roles.Key = true
is_key other role = false

-- the key that an item of octets of a type is, if its encryption type is that of a suite; it is called as the type and its struct
abbrev pub key_at : List ℕ → List ℕ → Preceding → List ℕ → Item → Option NamedKey
key_at kind octets p name i = if is_key i.form i.name.role then option_map (named_key kind name (content_of octets i)) (suite_of p.etype) else None

-- those among the items, in their order
abbrev pub keys_in : List ℕ → List ℕ → Preceding → List ℕ → List Item → List NamedKey
keys_in kind octets p name [] = []
keys_in kind octets p name (i ∷ items) = in_list (key_at kind octets p name i) ++ keys_in kind octets (behind octets i p) (name_behind i name) items
