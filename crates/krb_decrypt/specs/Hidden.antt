-- Pages without the octets of keys and passwords.
use Rattle.std.specs.Prelude.{◌≡◌, ℤ, pos, Bool, true, false, if◌then◌else◌, List, [], ◌∷◌, ◌++◌, Option, None, Some, codes}
use Rattle.std.specs.Ordering.{int_eq}
use Rattle.std.specs.List.{filter}
use Rattle.krb_registry.specs.declared.kind.Kind.{Kind}
use Rattle.krb_registry.specs.declared.kind.Kind.TheVariants as kinds
use Rattle.krb_show.specs.declared.token.Form.{Form}
use Rattle.krb_show.specs.declared.token.Form.TheVariants as form
use Rattle.krb_show.specs.Tokens.{Token, leaf}

-- the octets of a key, a password or a PIN, or octets in the clear in the place of encrypted ones
abbrev pub is_secret : Bool → Form → Bool
is_secret is_clear form.Secret = true
is_secret is_clear form.Cipher = is_clear
is_secret is_clear f = false

-- what stands for them, in their place
abbrev pub hiding : Token → Token
hiding t = record (leaf form.Word t.label (codes "hidden")) { place = t.place }

-- a token, where it holds none
abbrev pub hidden : Bool → Token → Token
hidden is_clear t = if is_secret is_clear t.form then hiding t else t

-- the number of an encryption type (RFC 3961, 8), and whether it is 0, NULL (RFC 4120, 5.8.1)
abbrev pub are_types : Option Kind → Bool
are_types (Some kinds.EncryptionType) = true
are_types registry = false

abbrev pub is_number : Form → Bool
is_number form.Number = true
is_number f = false

abbrev pub is_etype : Token → Bool
is_etype t = if is_number t.form then are_types t.label.kind else false

abbrev pub is_null : Option ℤ → Bool
is_null None = false
is_null (Some z) = int_eq z (pos 0)

abbrev pub is_zero : Token → Bool
is_zero t = is_null t.number

-- whether the last of tokens is such a number
abbrev pub last_is_zero : List Token → Bool
last_is_zero [] = false
last_is_zero (t ∷ []) = is_zero t
last_is_zero (t ∷ u ∷ ts) = last_is_zero (u ∷ ts)

-- whether octets in the place of encrypted ones behind these tokens are in the clear: the last encryption type among them is 0
abbrev pub is_clear_behind : List Token → Bool
is_clear_behind before = last_is_zero (filter is_etype before)

-- tokens without the octets of keys and passwords, where these stand before them
abbrev pub hidden_from : List Token → List Token → List Token
hidden_from before [] = []
hidden_from before (t ∷ ts) = hidden (is_clear_behind before) t ∷ hidden_from (before ++ t ∷ []) ts

-- a page without the octets of keys and passwords
abbrev pub hidden_page : List Token → List Token
hidden_page page = hidden_from [] page

-- none of the tokens holds the octets of a key, a password or a PIN
abbrev pub NoneIsSecret : List Token → Type 0
NoneIsSecret [] = Unit {0}
NoneIsSecret (t ∷ ts) = (t.form ≡ form.Secret → ⊥) × NoneIsSecret ts
