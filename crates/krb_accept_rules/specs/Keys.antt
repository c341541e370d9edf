-- The keys that a ticket is for (RFC 4120, 3.2.3 and 6.2).
use Rattle.std.specs.Prelude.{◌≡◌, ◌⊎◌, ℕ, ℤ, pos, true, Option, None, Some, List, SomeIff, FitsSigned, if◌then◌else◌}
use Rattle.std.specs.Int.{w64}
use Rattle.krb_types.specs.Flags.{is_set}
use Rattle.krb_accept_rules.specs.declared.fields.RequestFields.{RequestFields}
use Rattle.krb_accept_rules.specs.declared.key.ServiceKey.{ServiceKey}
use Rattle.krb_accept_rules.specs.declared.key.Sought.{Sought}
use Rattle.krb_accept_rules.specs.declared.key.Sought.TheVariants as sought

-- the keys among which the ticket's is: where use-session-key is set, the session keys (5.5.1)
abbrev pub keys_for : RequestFields → List ServiceKey → List ServiceKey → List ServiceKey
keys_for r keys session_keys = (if is_set r.options.octets 1 then session_keys else keys)

-- the key is of the server that the ticket names: of the same realm, with the same components; the name type is a hint
abbrev pub IsOfServer : RequestFields → ServiceKey → Type 0
IsOfServer r k = (k.realm ≡ r.realm) × (k.name.name_string ≡ r.server.name_string)

-- of the encryption type of the ticket
abbrev pub IsOfType : RequestFields → ServiceKey → Type 0
IsOfType r k = r.ticket.etype ≡ pos k.etype

-- of this version, if there is one
abbrev pub IsOfVersion : Option ℤ → ℕ → Type 0
IsOfVersion None version = Unit {0}
IsOfVersion (Some kvno) version = kvno ≡ pos version

-- of the version that the ticket names; a session key has none
abbrev pub IsOfItsVersion : RequestFields → ServiceKey → Type 0
IsOfItsVersion r k = (is_set r.options.octets 1 ≡ true) ⊎ IsOfVersion r.ticket.kvno.0 k.kvno

-- the key is of the server and of the encryption type
abbrev pub IsOfServerAndType : RequestFields → ServiceKey → Type 0
IsOfServerAndType r k = IsOfServer r k × IsOfType r k

-- and of the version: a key that the ticket says it is sealed under
abbrev pub IsForTicket : RequestFields → ServiceKey → Type 0
IsForTicket r k = IsOfServer r k × IsOfType r k × IsOfItsVersion r k

-- the key is one that is sought
abbrev pub Fits : RequestFields → Sought → ServiceKey → Type 0
Fits r sought.Server = IsOfServer r
Fits r sought.Etype = IsOfServerAndType r
Fits r sought.Kvno = IsForTicket r

-- the version that the ticket names, where it fits 64 bits
abbrev pub ShowsVersion : Option ℤ → Option ℤ → Type 0
ShowsVersion None seen = seen ≡ None
ShowsVersion (Some kvno) seen = SomeIff seen (FitsSigned w64 kvno) kvno
