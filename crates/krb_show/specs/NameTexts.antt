-- The components of a principal's name as one text (RFC 4120, 5.2.2), as people write a name: `HTTP/www.home.test`, `ann@home.test`.
use Rattle.std.specs.Prelude.{ℕ, ◌==◌, if◌then◌else◌, ◌||◌, Option, None, Some, List, [], ◌∷◌, ◌++◌}
use Rattle.std.specs.List.{flat_map}
use Rattle.krb_types.specs.Principals.{marked}

-- a `/` and a `\` within a component stand behind a `\`, so that two names never have one text; every other octet is itself
abbrev pub behind_mark : ℕ → Option ℕ
behind_mark octet = if (octet == 47) || (octet == 92) then Some octet else None

abbrev pub component_octet : ℕ → List ℕ
component_octet octet = marked octet (behind_mark octet)

abbrev pub component_text : List ℕ → List ℕ
component_text component = flat_map component_octet component

-- components, each after a `/`
abbrev pub after_slashes : List (List ℕ) → List ℕ
after_slashes components = flat_map (λ c. 47 ∷ component_text c) components

-- components, with `/` between them
abbrev pub name_text : List (List ℕ) → List ℕ
name_text [] = []
name_text (first ∷ rest) = component_text first ++ after_slashes rest
