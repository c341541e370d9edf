-- What an authenticator and its ticket have to be, once both are opened (RFC 4120, 3.2.3).
use Rattle.std.specs.Prelude.{◌≡◌, ◌⊎◌, ℕ, ℤ, pos, ◌+ℤ◌, ◌≤ℤ◌, Bool, true, false, Option, None, Some, List, [], ◌∷◌, ◌++◌}
use Rattle.krb_types.specs.declared.data_types.addresses.HostAddress.{HostAddress}
use Rattle.krb_types.specs.declared.data_types.authorization_data.AuthorizationDataInner.{AuthorizationDataInner}
use Rattle.krb_types.specs.declared.data_types.encryption.EncryptionKey.{EncryptionKey}
use Rattle.krb_types.specs.Flags.{is_set}
use Rattle.krb_types.specs.Times.{unix_seconds}
use Rattle.krb_accept_rules.specs.Firsts.{EachIs}
use Rattle.krb_accept_rules.specs.Names.{IsAmong}
use Rattle.krb_accept_rules.specs.Numbers.{HasMicroseconds, IsListed, IsNumber32}
use Rattle.krb_accept_rules.specs.Servers.{IsRealmOf}
use Rattle.krb_accept_rules.specs.TicketTimes.{end_of, start_of}
use Rattle.krb_accept_rules.specs.Times.{IsWithin}
use Rattle.krb_accept_rules.specs.declared.fields.AuthenticatorFields.{AuthenticatorFields}
use Rattle.krb_accept_rules.specs.declared.fields.TicketFields.{TicketFields}
use Rattle.krb_accept_rules.specs.declared.opening.Opening.{Ghosts as OpeningOf}
use Rattle.krb_accept_rules.specs.declared.refusal.Rule.{Rule}
use Rattle.krb_accept_rules.specs.declared.refusal.Rule.TheVariants as Rules
use Rattle.krb_accept_rules.specs.declared.terms.Arrival.{Arrival}
use Rattle.krb_accept_rules.specs.declared.terms.Terms.{Terms}

-- the fact for the value, where there is one
abbrev pub WherePresent : {A : Type 0} → (A → Type 0) → Option A → Type 0
WherePresent fact None = Unit {0}
WherePresent fact (Some v) = fact v

-- ---- keys

-- a suite is of the encryption type, and the service permits it
abbrev pub IsPermitted : {O : Type 0} → OpeningOf O → Terms → ℤ → Type 0
IsPermitted o terms etype = o.supports etype × IsListed terms.etypes.items etype

-- a subkey is of such a type, and has the length of its keys
abbrev pub IsSubkey : {O : Type 0} → OpeningOf O → Terms → EncryptionKey → Type 0
IsSubkey o terms key = IsPermitted o terms key.key_type × o.has_length key

-- ---- the client

-- of the same realm, with the same components; the name type is a hint (6.2)
abbrev pub IsSameClient : TicketFields → AuthenticatorFields → Type 0
IsSameClient ticket authenticator = (ticket.realm ≡ authenticator.realm) × (ticket.client.name_string ≡ authenticator.client.name_string)

-- The client's address is among those of the ticket. A ticket for no address fits each, unless addresses are required. An address that is
-- not known is not compared.
abbrev pub FitsAddress : Bool → Option HostAddress → Option (List HostAddress) → Type 0
FitsAddress required None addresses = Unit {0}
FitsAddress required (Some address) None = required ≡ false
FitsAddress required (Some address) (Some addresses) = IsAmong addresses address

-- ---- who the client is

-- the ticket does not have the flag ANONYMOUS (16; RFC 8062, 3), or the service lets in clients without a name
abbrev pub HasName : Terms → TicketFields → Type 0
HasName terms ticket = (is_set ticket.flags.octets 16 ≡ false) ⊎ (terms.anonymous ≡ true)

-- ---- the path

-- no realm is between, a KDC has checked the path (TRANSITED-POLICY-CHECKED, 5.3), or the service takes one that is not checked (2.7)
abbrev pub IsPath : Terms → TicketFields → Type 0
IsPath terms ticket = (ticket.transited.contents ≡ []) ⊎ ((is_set ticket.flags.octets 12 ≡ true) ⊎ (terms.unchecked_path ≡ true))

-- ---- authorization data

-- the elements, where there are some
abbrev pub data_in : Option (List AuthorizationDataInner) → List AuthorizationDataInner
data_in None = []
data_in (Some elements) = elements

-- AD-IF-RELEVANT (1), or of a type that the service understands (5.2.6)
abbrev pub IsUnderstood : List ℕ → AuthorizationDataInner → Type 0
IsUnderstood known element = (element.ad_type ≡ pos 1) ⊎ IsListed known element.ad_type

-- what an AD-IF-RELEVANT holds is an AuthorizationData (5.2.6.1); what stands in it is not looked at
abbrev pub IsWellFormed : {O : Type 0} → OpeningOf O → AuthorizationDataInner → Type 0
IsWellFormed o element = element.ad_type ≡ pos 1 → o.is_data element.ad_data

-- each element of the ticket and of the authenticator
abbrev pub EachElement : (AuthorizationDataInner → Type 0) → TicketFields → AuthenticatorFields → Type 0
EachElement fact ticket authenticator =
    EachIs fact (data_in ticket.authorization_data) × EachIs fact (data_in authenticator.authorization_data)

-- ---- the rules

abbrev pub AuthenticatorRule : {O : Type 0} → OpeningOf O → Terms → Arrival → TicketFields → AuthenticatorFields → Rule → Type 0
AuthenticatorRule o terms arrival ticket authenticator Rules.AuthenticatorVersion = authenticator.version ≡ pos 5
AuthenticatorRule o terms arrival ticket authenticator Rules.Microseconds = HasMicroseconds authenticator.cusec
AuthenticatorRule o terms arrival ticket authenticator Rules.SequenceNumber = WherePresent IsNumber32 authenticator.sequence_number
AuthenticatorRule o terms arrival ticket authenticator Rules.Subkey = WherePresent (IsSubkey o terms) authenticator.subkey
AuthenticatorRule o terms arrival ticket authenticator Rules.OtherClient = IsSameClient ticket authenticator
AuthenticatorRule o terms arrival ticket authenticator Rules.OtherAddress = FitsAddress terms.addresses_required arrival.address ticket.addresses
AuthenticatorRule o terms arrival ticket authenticator Rules.Skew = IsWithin arrival.clock terms.skew (unix_seconds authenticator.ctime)
AuthenticatorRule o terms arrival ticket authenticator Rules.NotYetValid = start_of ticket ≤ℤ (arrival.clock +ℤ pos terms.skew)
AuthenticatorRule o terms arrival ticket authenticator Rules.Invalid = is_set ticket.flags.octets 7 ≡ false
AuthenticatorRule o terms arrival ticket authenticator Rules.Expired = arrival.clock ≤ℤ (end_of ticket +ℤ pos terms.skew)
AuthenticatorRule o terms arrival ticket authenticator Rules.Anonymous = HasName terms ticket
AuthenticatorRule o terms arrival ticket authenticator Rules.ClientRealm = IsRealmOf terms ticket.realm
AuthenticatorRule o terms arrival ticket authenticator Rules.Path = IsPath terms ticket
AuthenticatorRule o terms arrival ticket authenticator Rules.CriticalData = EachElement (IsUnderstood terms.known_data.items) ticket authenticator
AuthenticatorRule o terms arrival ticket authenticator Rules.DataForm = EachElement (IsWellFormed o) ticket authenticator
AuthenticatorRule o terms arrival ticket authenticator other = Unit {0}

-- what a refusal shows of the times, in seconds
abbrev pub ShowsTime : TicketFields → AuthenticatorFields → Rule → Option ℤ → Type 0
ShowsTime ticket authenticator Rules.Skew seen = seen ≡ Some (unix_seconds authenticator.ctime)
ShowsTime ticket authenticator Rules.NotYetValid seen = seen ≡ Some (start_of ticket)
ShowsTime ticket authenticator Rules.Expired seen = seen ≡ Some (end_of ticket)
ShowsTime ticket authenticator other seen = seen ≡ None

-- ---- their order

abbrev pub parts_order : List Rule
parts_order = Rules.AuthenticatorVersion ∷ Rules.Microseconds ∷ Rules.SequenceNumber ∷ Rules.Subkey ∷ []

abbrev pub client_order : List Rule
client_order = Rules.OtherClient ∷ Rules.OtherAddress ∷ Rules.Skew ∷ []

abbrev pub time_order : List Rule
time_order = Rules.NotYetValid ∷ Rules.Invalid ∷ Rules.Expired ∷ []

abbrev pub trust_order : List Rule
trust_order = Rules.Anonymous ∷ Rules.ClientRealm ∷ Rules.Path ∷ Rules.CriticalData ∷ []

-- those that are decided on the values that were read
abbrev pub value_order : List Rule
value_order = parts_order ++ (client_order ++ (time_order ++ trust_order))

-- and that of octets within them
abbrev pub octets_order : List Rule
octets_order = Rules.DataForm ∷ []

abbrev pub authenticator_order : List Rule
authenticator_order = value_order ++ octets_order
