-- How the formats of `krb_show_messages` begin.
use Rattle.std.specs.Prelude.{ℕ, if◌then◌else◌, List, [], ◌∷◌, Option, None, Some}
use Rattle.krb_schema.specs.declared.shape.Role.TheVariants as roles
use Rattle.krb_show_messages.specs.Formats.{gss_checksum, win2k_pac}
use Rattle.krb_show_row_laws.specs.Blocks.{same_octets}
use Rattle.krb_show_row_laws.specs.Firsts.{Kinds, Opening, of_leaf, of_list, of_struct}

-- as these behind the INTEGER of this content, and as octets behind others
abbrev pub behind_this : List ℕ → List Opening → Option (List ℕ) → List Opening
behind_this wanted these None = these
behind_this wanted these (Some number) = if same_octets number wanted then these else of_leaf ∷ []

-- The formats of `krb_show_messages`: a PAC, or octets, behind 128; the checksum of the GSS-API, or octets, behind 32771; and a message behind its
-- length, or octets.
abbrev pub kerberos_kinds : Kinds
kerberos_kinds roles.AuthorizationData number = behind_this win2k_pac (of_list ∷ of_struct ∷ of_leaf ∷ []) number
kerberos_kinds roles.Checksum number = behind_this gss_checksum (of_struct ∷ of_leaf ∷ []) number
kerberos_kinds roles.PrefixedMessage number = of_struct ∷ of_leaf ∷ []
kerberos_kinds role number = of_leaf ∷ []
