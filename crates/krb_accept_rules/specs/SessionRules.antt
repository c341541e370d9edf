-- What a ticket and its session key have to be before the authenticator is opened (RFC 4120, 3.2.3).
use Rattle.std.specs.Prelude.{◌≡◌, ℤ, Option, None, List, [], ◌∷◌}
use Rattle.krb_types.specs.declared.data_types.encryption.EncryptionKey.{EncryptionKey}
use Rattle.krb_accept_rules.specs.AuthenticatorRules.{IsPermitted}
use Rattle.krb_accept_rules.specs.Flags.{HasFlags}
use Rattle.krb_accept_rules.specs.declared.fields.RequestFields.{RequestFields}
use Rattle.krb_accept_rules.specs.declared.fields.TicketFields.{TicketFields}
use Rattle.krb_accept_rules.specs.declared.opening.Opening.{Ghosts as OpeningOf}
use Rattle.krb_accept_rules.specs.declared.refusal.Rule.{Rule}
use Rattle.krb_accept_rules.specs.declared.refusal.Rule.TheVariants as Rules
use Rattle.krb_accept_rules.specs.declared.terms.Terms.{Terms}

-- it is of an encryption type that is supported and permitted, and the authenticator names this type
abbrev pub IsSessionKey : {O : Type 0} → OpeningOf O → Terms → RequestFields → EncryptionKey → Type 0
IsSessionKey o terms r key = IsPermitted o terms key.key_type × (r.authenticator.etype ≡ key.key_type)

abbrev pub SessionRule : {O : Type 0} → OpeningOf O → Terms → RequestFields → TicketFields → Rule → Type 0
SessionRule o terms r ticket Rules.Flags = HasFlags ticket.flags
SessionRule o terms r ticket Rules.SessionSuite = IsSessionKey o terms r ticket.key
SessionRule o terms r ticket other = Unit {0}

-- nothing is shown
abbrev pub ShowsNothing : Rule → Option ℤ → Type 0
ShowsNothing broken seen = seen ≡ None

abbrev pub session_order : List Rule
session_order = Rules.Flags ∷ Rules.SessionSuite ∷ []
