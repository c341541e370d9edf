-- For which servers a service lets clients in (RFC 2743, 4.1; RFC 1964, 2.1.1), and of which realms.
use Rattle.std.specs.Prelude.{◌≡◌, ◌⊎◌, ℕ, Option, None, Some, List, [], ◌∷◌}
use Rattle.krb_accept_rules.specs.Firsts.{OneIs}
use Rattle.krb_accept_rules.specs.declared.fields.RequestFields.{RequestFields}
use Rattle.krb_accept_rules.specs.declared.servers.ServerName.{ServerName}
use Rattle.krb_accept_rules.specs.declared.terms.Terms.{Terms}

-- the realm is this one, where there is one
abbrev pub IsOfRealm : Option (List ℕ) → List ℕ → Type 0
IsOfRealm None realm = Unit {0}
IsOfRealm (Some named) realm = named ≡ realm

-- a service alone, and this service at a host
pub record IsAtHost (named components : List (List ℕ)) : Type 0 where
  pub service : List ℕ
  pub host : List ℕ
  pub named_is : named ≡ service ∷ []
  pub components_are : components ≡ service ∷ (host ∷ [])

-- the same components, or a service alone that stands for it at any host
abbrev pub NamesService : List (List ℕ) → List (List ℕ) → Type 0
NamesService named components = (named ≡ components) ⊎ IsAtHost named components

-- the name stands for the server that the ticket names
abbrev pub NamesServer : RequestFields → ServerName → Type 0
NamesServer r name = IsOfRealm name.realm r.realm × NamesService name.components r.server.name_string

-- one of the names of the terms does, where these have some
abbrev pub IsServed : Terms → RequestFields → Type 0
IsServed terms r = (terms.servers.items ≡ []) ⊎ OneIs (NamesServer r) terms.servers.items

-- the realm is one of the terms', where these have some
abbrev pub IsRealmOf : Terms → List ℕ → Type 0
IsRealmOf terms realm = (terms.realms.items ≡ []) ⊎ OneIs (λ x. x ≡ realm) terms.realms.items
