-- The names of kinds, as their standards spell them.
use Rattle.std.specs.Prelude.{◌≡◌, ℕ, if◌then◌else◌, MatchOption, Option, Some, None, List, codes, unwrap_or}
use Rattle.krb_show_pages.specs.Types.{applications, is_same, name_in, tag_in, type_in, type_names}
use Rattle.krb_show_any.specs.declared.kind.Kind.{Kind}
use Rattle.krb_show_any.specs.declared.kind.Kind.TheVariants as kind

-- the kinds that have one name
abbrev pub other_named : List ℕ → Option Kind
other_named name =
    if is_same (codes "token") name then Some kind.Token
    else if is_same (codes "PAC") name then Some kind.Pac
    else if is_same (codes "NEGOEX") name then Some kind.Negoex
    else if is_same (codes "password-frame") name then Some kind.PasswordFrame
    else if is_same (codes "keytab") name then Some kind.Keytab
    else if is_same (codes "ccache") name then Some kind.Ccache
    else if is_same (codes "tree") name then Some kind.Tree
    else None

-- the kind is the type of this name
abbrev pub IsType : List ℕ → Kind → Type 0
IsType name (kind.Type of) = of.now ≡ name
IsType name other = ⊥

-- that is what is found
abbrev pub IsTypeFound : Option (List ℕ) → Option Kind → Type 0
IsTypeFound None found = found ≡ None
IsTypeFound (Some name) found = MatchOption found ⊥ (IsType name)

-- The kind of this name: that of a message or an opened part; else one of the kinds that have one name; else a type that no first octet tells.
abbrev pub IsNamed : List ℕ → Option Kind → Type 0
IsNamed name found = named_among (tag_in applications name) (other_named name)
  where
    named_among : Option ℕ → Option Kind → Type 0
    named_among (Some tag) other = found ≡ Some (kind.Application tag)
    named_among None (Some other) = found ≡ Some other
    named_among None None = IsTypeFound (type_in type_names name) found

-- the name of a kind
abbrev pub kind_name : Kind → List ℕ
kind_name (kind.Application tag) = unwrap_or (name_in applications tag) (codes "message")
kind_name kind.Token = codes "token"
kind_name kind.Pac = codes "PAC"
kind_name kind.Negoex = codes "NEGOEX"
kind_name kind.PasswordFrame = codes "password-frame"
kind_name kind.Keytab = codes "keytab"
kind_name kind.Ccache = codes "ccache"
kind_name kind.Tree = codes "tree"
kind_name (kind.Type name) = name.now
