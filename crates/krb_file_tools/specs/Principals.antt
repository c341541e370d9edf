-- Principals as text (RFC 1964, 2.1.1), as krb5_unparse_name of MIT Kerberos writes them, in printable ASCII without blanks.
use Rattle.std.specs.Prelude.{ℕ, nat_le, ◌&&◌, if◌then◌else◌, List, [], ◌∷◌, ◌++◌, Option, None, Some, codes}
use Rattle.std.specs.List.{flat_map}
use Rattle.krb_files.specs.FieldReading.{Principal}
use Rattle.krb_show.specs.Leaves.{hex_octet}
use Rattle.krb_types.specs.Principals.{quotation}

-- an octet as itself where it is printable and no blank, and else as its two hexadecimal digits behind `\x`
abbrev pub plain_octet : ℕ → List ℕ
plain_octet octet = if nat_le 33 octet && nat_le octet 126 then octet ∷ [] else codes "\\x" ++ hex_octet octet

-- an octet that is quoted stands as this behind a `\`
abbrev pub quoted_or : ℕ → Option ℕ → List ℕ
quoted_or octet None = plain_octet octet
quoted_or octet (Some letter) = 92 ∷ letter ∷ []

-- an octet of a component or of a realm
abbrev pub name_octet : ℕ → List ℕ
name_octet octet = quoted_or octet (quotation octet)

abbrev pub name_text : List ℕ → List ℕ
name_text octets = flat_map name_octet octets

-- components, each behind a `/`
abbrev pub after_slashes : List (List ℕ) → List ℕ
after_slashes components = flat_map (λ c. 47 ∷ name_text c) components

-- components, with `/` between them
abbrev pub components_text : List (List ℕ) → List ℕ
components_text [] = []
components_text (first ∷ rest) = name_text first ++ after_slashes rest

-- components, `@`, and the realm
abbrev pub principal_text : Principal → List ℕ
principal_text p = components_text p.components ++ 64 ∷ name_text p.realm
