-- What is told behind a ticket that a key decrypts.
use Rattle.std.specs.Prelude.{◌≡◌, ◌≢◌, ◌⊎◌, ℕ, List}
use Rattle.krb_show.specs.Opened.{IsNone, IsOf}
use Rattle.krb_show.specs.Tokens.{Token}
use Rattle.krb_decrypt.specs.Keys.{NamedKey}
use Rattle.krb_decrypt.specs.declared.usage.Usage.{Usage}
use Rattle.krb_decrypt.specs.declared.usage.Usage.TheVariants as usage

-- what is told of a value: the caller's keys, the key that decrypted it, the value, the page before and the page after
abbrev pub Telling : Type 0 → Type 1
Telling A = List NamedKey → NamedKey → A → List Token → List Token → Type 0

-- of the value whose encoding the octets are, where they are of one
abbrev pub tells_of : {A : Type 0} → (A → Type 0) → (A → List ℕ) → Telling A → List NamedKey → NamedKey → List ℕ → List Token → List Token → Type 0
tells_of {A} is_value enc tells own key octets old new =
    ((v : A) × IsOf is_value enc octets v × tells own key v old new) ⊎ (IsNone is_value enc octets × (new ≡ old))

-- for key usage 2 alone, a ticket
abbrev pub if_ticket : Usage → (List Token → List Token → Type 0) → List Token → List Token → Type 0
if_ticket u tells old new = ((u ≡ usage.Ticket) × tells old new) ⊎ ((u ≢ usage.Ticket) × (new ≡ old))

-- behind a part that a key decrypts for a usage
abbrev pub tells_behind : {A : Type 0} → (A → Type 0) → (A → List ℕ) → Telling A → List NamedKey → NamedKey → Usage → List ℕ → List Token → List Token → Type 0
tells_behind is_value enc tells own key u octets = if_ticket u (tells_of is_value enc tells own key octets)
