-- What stands before tokens, and the keys among them.
use Rattle.std.specs.Prelude.{ℕ, Bool, true, false, if◌then◌else◌, List, [], ◌∷◌, ◌++◌, Option, None, Some, option_map}
use Rattle.krb_crypto.specs.declared.cipher_suite.CipherSuite.{CipherSuite}
use Rattle.krb_registry.specs.declared.kind.Kind.{Kind}
use Rattle.krb_registry.specs.declared.kind.Kind.TheVariants as kinds
use Rattle.krb_schema.specs.declared.shape.Role.{Role}
use Rattle.krb_schema.specs.declared.shape.Role.TheVariants as roles
use Rattle.krb_show.specs.Tokens.{Token}
use Rattle.krb_show.specs.declared.token.Form.{Form}
use Rattle.krb_show.specs.declared.token.Form.TheVariants as form
use Rattle.krb_decrypt.specs.Keys.{NamedKey, suite_of}
use Rattle.krb_decrypt.specs.declared.preceding.Preceding.{Preceding}

abbrev pub start : Preceding
start = record { role = roles.None; etype = None }

-- the numbers are encryption types (RFC 3961, 8)
abbrev pub are_types : Option Kind → Bool
are_types (Some kinds.EncryptionType) = true
are_types other = false

-- what stands before the token behind one: behind a struct that begins there, and behind a number that is an encryption type
abbrev pub behind_form : Form → Token → Preceding → Preceding
behind_form form.Struct t p = record { role = t.label.role; etype = p.etype }
behind_form form.Number t p = if are_types t.label.kind then record { role = p.role; etype = t.number } else p
behind_form other t p = p

abbrev pub behind : Token → Preceding → Preceding
behind t p = behind_form t.form t p

-- the name of the struct that began last
abbrev pub name_behind : Token → List ℕ → List ℕ
name_behind t name = by_form t.form
  where
    by_form : Form → List ℕ
    by_form form.Struct = t.label.text
    by_form other = name

-- ---- keys (RFC 4120, 5.2.9)

abbrev pub is_key : Form → Role → Bool
is_key form.Secret roles.Key = true
is_key other role = false

-- a key of this suite, called as the type that holds it and its struct
abbrev pub named_key : List ℕ → List ℕ → List ℕ → CipherSuite → NamedKey
named_key kind name octets suite = record { suite = suite; octets = octets; name = kind ++ 32 ∷ name }

-- the key that a token is, if its encryption type is that of a suite
abbrev pub key_at : List ℕ → Preceding → List ℕ → Token → Option NamedKey
key_at kind p name t = if is_key t.form t.label.role then option_map (named_key kind name t.octets) (suite_of p.etype) else None

abbrev pub in_list : {A : Type 0} → Option A → List A
in_list None = []
in_list (Some x) = x ∷ []

-- those among tokens of a type, in their order
abbrev pub keys_in : List ℕ → Preceding → List ℕ → List Token → List NamedKey
keys_in kind p name [] = []
keys_in kind p name (t ∷ ts) = in_list (key_at kind p name t) ++ keys_in kind (behind t p) (name_behind t name) ts
