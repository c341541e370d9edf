-- Principals as text (RFC 1964, 2.1.1).
use Rattle.std.specs.Prelude.{ℕ, ◌==◌, if◌then◌else◌, ◌||◌, Option, None, Some, List, [], ◌∷◌, ◌++◌, ◌≡◌, ◌≢◌, ◌⊎◌}
use Rattle.std.specs.List.{flat_map, AllByRecursion}
use Rattle.std.specs.Option.{IfSome}
use Rattle.std.specs.Str.{IsAscii}
use Rattle.krb_types.specs.declared.view.principals.PrincipalError.{PrincipalError}
use Rattle.krb_types.specs.declared.view.principals.PrincipalError.TheVariants as errors

-- what follows a `\` for this octet, where it is not written as itself: itself for `/`, `@` and `\`, and a letter for a line feed, a
-- tabulator, a backspace and a NUL
abbrev pub quotation : ℕ → Option ℕ
quotation octet =
    if (octet == 47) || (octet == 64) || (octet == 92) then Some octet
    else if octet == 10 then Some 110 else if octet == 9 then Some 116 else if octet == 8 then Some 98 else if octet == 0 then Some 48 else None

abbrev pub marked : ℕ → Option ℕ → List ℕ
marked octet None = octet ∷ []
marked octet (Some letter) = 92 ∷ letter ∷ []

-- an octet of a component or of a realm
abbrev pub quoted_octet : ℕ → List ℕ
quoted_octet octet = marked octet (quotation octet)

abbrev pub quoted : List ℕ → List ℕ
quoted octets = flat_map quoted_octet octets

-- components, each after a `/`
abbrev pub after_slashes : List (List ℕ) → List ℕ
after_slashes components = flat_map (λ c. 47 ∷ quoted c) components

-- components, with `/` between them
abbrev pub components_text : List (List ℕ) → List ℕ
components_text [] = []
components_text (first ∷ rest) = quoted first ++ after_slashes rest

-- a realm after `@`, or nothing
abbrev pub realm_text : Option (List ℕ) → List ℕ
realm_text None = []
realm_text (Some realm) = 64 ∷ quoted realm

abbrev pub principal_text : List (List ℕ) → Option (List ℕ) → List ℕ
principal_text components realm = components_text components ++ realm_text realm

-- no octet of a component or of a realm is here: nothing is, or `/` or `@`
abbrev pub IsEnd : List ℕ → Type 0
IsEnd [] = Unit {0}
IsEnd (octet ∷ rest) = (octet ≡ 47) ⊎ (octet ≡ 64)

-- this octet is not here first
abbrev pub IsNotFirst : ℕ → List ℕ → Type 0
IsNotFirst mark [] = Unit {0}
IsNotFirst mark (octet ∷ rest) = octet ≢ mark

-- a text is that of one component or more and of a realm, if it has one, all of ASCII
abbrev pub IsTextOf : List (List ℕ) → Option (List ℕ) → List ℕ → Type 0
IsTextOf components realm text = (components ≢ []) × AllByRecursion IsAscii components × IfSome realm IsAscii × (text ≡ principal_text components realm)

-- no part of ASCII is written at the start of a text, up to an end
abbrev pub HasNoPart : List ℕ → Type 0
HasNoPart text = (part rest : List ℕ) → IsAscii part → IsEnd rest → text ≢ quoted part ++ rest

-- an allocation failed, or the text is of no principal, for this reason
abbrev pub IsMemoryOr : PrincipalError → Type 0 → Type 0
IsMemoryOr e why = (e ≡ errors.OutOfMemory) ⊎ ((e ≡ errors.InvalidText) × why)
