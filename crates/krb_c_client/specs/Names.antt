-- Names of principals, by their texts (RFC 1964, 2.1.1; RFC 4120, 6.2).
use Rattle.std.specs.Prelude.{◌≡◌, ◌⊎◌, ℕ, pos, List, Option, Some, None}
use Rattle.std.specs.Str.{IsUtf8}
use Rattle.krb_types.specs.Principals.{IsTextOf}
use Rattle.krb_types.specs.declared.data_types.names.PrincipalName.{PrincipalName}
use Rattle.krb_c_calls.specs.declared.call_error.CallError.{CallError}
use Rattle.krb_c_calls.specs.declared.call_error.CallError.TheVariants as refusals

-- the octets are the text of this realm and of this name's components, and this is the name's type
pub record IsNamed (octets : List ℕ) (type : ℕ) (realm : List ℕ) (name : PrincipalName) : Type 0 where
  pub is_text : IsTextOf name.name_string (Some realm) octets
  pub of_type : name.name_type ≡ pos type

-- they are that of a principal with a realm
abbrev pub HasName : List ℕ → ℕ → Type 0
HasName octets type = (realm : List ℕ) × (name : PrincipalName) × IsNamed octets type realm name

-- they are no text; or no principal's; or that of one without a realm
pub data IsNameless (octets : List ℕ) : Type 0 where
  no_text : (IsUtf8 octets → ⊥) → IsNameless octets
  no_principal : ((components : List (List ℕ)) (realm : Option (List ℕ)) → IsTextOf components realm octets → ⊥) → IsNameless octets
  no_realm : (components : List (List ℕ)) → IsTextOf components None octets → IsNameless octets

-- an allocation failed, or they are the text of no principal with a realm (Invalid)
abbrev pub IsNoName : List ℕ → CallError → Type 0
IsNoName octets e = (e ≡ refusals.Memory) ⊎ ((e ≡ refusals.Invalid) × IsNameless octets)
