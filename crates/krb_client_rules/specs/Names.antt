-- Names (RFC 4120, 6.2).
use Rattle.std.specs.Prelude.{◌≡◌, List, ℕ}
use Rattle.krb_types.specs.declared.data_types.names.PrincipalName.{PrincipalName}
use Rattle.krb_client_rules.specs.declared.asked.Asked.{Asked}

-- the components are the same; the name type is a hint
abbrev pub IsSameName : PrincipalName → PrincipalName → Type 0
IsSameName first second = first.name_string ≡ second.name_string

-- they are the realm and the name of the server that was asked for
abbrev pub IsServer : Asked → List ℕ → PrincipalName → Type 0
IsServer a realm name = (realm ≡ a.realm) × IsSameName name a.sname
