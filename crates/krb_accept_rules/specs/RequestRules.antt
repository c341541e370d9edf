-- What an AP-REQ has to be before anything is opened (RFC 4120, 3.2.3).
use Rattle.std.specs.Prelude.{◌≡◌, ◌≢◌, ℤ, pos, true, Option, None, List, [], ◌∷◌, ◌++◌}
use Rattle.krb_types.specs.Flags.{is_set}
use Rattle.krb_accept_rules.specs.AuthenticatorRules.{IsPermitted}
use Rattle.krb_accept_rules.specs.Firsts.{OneIs}
use Rattle.krb_accept_rules.specs.Flags.{HasFlags}
use Rattle.krb_accept_rules.specs.Keys.{IsForTicket, IsOfServer, IsOfServerAndType, ShowsVersion, keys_for}
use Rattle.krb_accept_rules.specs.Servers.{IsServed}
use Rattle.krb_accept_rules.specs.declared.fields.RequestFields.{RequestFields}
use Rattle.krb_accept_rules.specs.declared.key.ServiceKey.{ServiceKey}
use Rattle.krb_accept_rules.specs.declared.opening.Opening.{Ghosts as OpeningOf}
use Rattle.krb_accept_rules.specs.declared.refusal.Rule.{Rule}
use Rattle.krb_accept_rules.specs.declared.refusal.Rule.TheVariants as Rules
use Rattle.krb_accept_rules.specs.declared.terms.Terms.{Terms}

-- where use-session-key is set, there is a session key
abbrev pub HasItsSessionKey : RequestFields → List ServiceKey → Type 0
HasItsSessionKey r session_keys = is_set r.options.octets 1 ≡ true → session_keys ≢ []

abbrev pub RequestRule : {O : Type 0} → OpeningOf O → Terms → List ServiceKey → List ServiceKey → RequestFields → Rule → Type 0
RequestRule o terms keys session_keys r Rules.Version = r.version ≡ pos 5
RequestRule o terms keys session_keys r Rules.MessageType = r.message_type ≡ pos 14
RequestRule o terms keys session_keys r Rules.TicketVersion = r.ticket_version ≡ pos 5
RequestRule o terms keys session_keys r Rules.Options = HasFlags r.options
RequestRule o terms keys session_keys r Rules.UserToUser = HasItsSessionKey r session_keys
RequestRule o terms keys session_keys r Rules.NotUs = IsServed terms r × OneIs (IsOfServer r) (keys_for r keys session_keys)
RequestRule o terms keys session_keys r Rules.NoKey = OneIs (IsOfServerAndType r) (keys_for r keys session_keys)
RequestRule o terms keys session_keys r Rules.KeyVersion = OneIs (IsForTicket r) (keys_for r keys session_keys)
RequestRule o terms keys session_keys r Rules.TicketSuite = IsPermitted o terms r.ticket.etype
RequestRule o terms keys session_keys r other = Unit {0}

-- what a refusal shows of the request
abbrev pub ShowsOfRequest : RequestFields → Rule → Option ℤ → Type 0
ShowsOfRequest r Rules.KeyVersion seen = ShowsVersion r.ticket.kvno.0 seen
ShowsOfRequest r other seen = seen ≡ None

abbrev pub form_order : List Rule
form_order = Rules.Version ∷ Rules.MessageType ∷ Rules.TicketVersion ∷ Rules.Options ∷ Rules.UserToUser ∷ []

abbrev pub key_order : List Rule
key_order = Rules.NotUs ∷ Rules.NoKey ∷ Rules.KeyVersion ∷ []

abbrev pub suite_order : List Rule
suite_order = Rules.TicketSuite ∷ []

abbrev pub request_order : List Rule
request_order = form_order ++ (key_order ++ suite_order)
