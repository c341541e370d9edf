-- Servers and realms by their texts (RFC 1964, 2.1.1; RFC 4120, 5.2.2).
use Rattle.std.specs.Prelude.{◌≡◌, ◌≢◌, List, [], ℕ}
use Rattle.std.specs.Str.{IsAscii}
use Rattle.krb_types.specs.Principals.{IsTextOf}
use Rattle.krb_accept_rules.specs.declared.servers.ServerName.{ServerName}

-- the name that a text is of; no octets are that of none
abbrev pub IsServer : List ℕ → ServerName → Type 0
IsServer text name = (text ≢ []) × IsTextOf name.components name.realm text

-- a text is of no server
abbrev pub IsNoServer : List ℕ → Type 0
IsNoServer text = (name : ServerName) → IsServer text name → ⊥

-- the realm that a text is, of ASCII; no octets are none
abbrev pub IsRealm : List ℕ → List ℕ → Type 0
IsRealm text realm = (text ≢ []) × IsAscii text × (realm ≡ text)

-- a text is no realm
abbrev pub IsNoRealm : List ℕ → Type 0
IsNoRealm text = (realm : List ℕ) → IsRealm text realm → ⊥
