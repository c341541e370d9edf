-- Which page octets have by the row of their type, which the first octet or a name tells.
use Rattle.std.specs.Prelude.{◌≡◌, ℕ, Bool, true, false, if◌then◌else◌, List, [], ◌∷◌, Option, None, Some, Result, Err, codes}
use Rattle.krb_der_core.specs.declared.error.Asn1DerError.{Asn1DerError}
use Rattle.krb_der_core.specs.declared.error.Asn1DerError.TheVariants as errors
use Rattle.krb_show.specs.Tokens.{Token}
use Rattle.krb_show_messages.specs.Shown.{IsPageByRow}
use Rattle.krb_show_pages.specs.Choices.{IsReplyTold}
use Rattle.krb_show_pages.specs.Types.{applications, is_name, name_in, title}

-- the name of what begins with this octet, if it is to be taken
abbrev pub named_if : Bool → ℕ → Option (List ℕ)
named_if is_taken first = if is_taken then name_in applications first else None

-- by the row of this name, if there is a name
abbrev pub IsPageOfNamed : {P : Type 0} → (P → List Token) → Option (List ℕ) → List ℕ → Result P Asn1DerError → Type 0
IsPageOfNamed tokens None octets result = result ≡ Err errors.InvalidData
IsPageOfNamed tokens (Some name) octets result = IsPageByRow name name tokens octets result

-- Messages and opened parts whose first octet is to be taken (RFC 4120, 5.10): no octet is `TruncatedData`, another first octet `InvalidData`.
abbrev pub IsPageByFirst : {P : Type 0} → (ℕ → Bool) → (P → List Token) → List ℕ → Result P Asn1DerError → Type 0
IsPageByFirst is_taken tokens [] result = result ≡ Err errors.TruncatedData
IsPageByFirst is_taken tokens (first ∷ rest) result = IsPageOfNamed tokens (named_if (is_taken first) first) (first ∷ rest) result

-- whether this is the name of PA-PK-AS-REP (RFC 4556, 3.2.3), a CHOICE, which has a row for each alternative
abbrev pub is_reply : List ℕ → Bool
is_reply name = is_name (codes "PA-PK-AS-REP") name

abbrev pub by_choice : {P : Type 0} → Bool → List ℕ → (P → List Token) → List ℕ → Result P Asn1DerError → Type 0
by_choice true name tokens octets result = IsReplyTold tokens octets result
by_choice false name tokens octets result = IsPageByRow name (title name) tokens octets result

-- a type that is named
abbrev pub IsPageOfType : {P : Type 0} → List ℕ → (P → List Token) → List ℕ → Result P Asn1DerError → Type 0
IsPageOfType name tokens octets result = by_choice (is_reply name) name tokens octets result
