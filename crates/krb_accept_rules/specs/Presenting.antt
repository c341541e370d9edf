-- What a client presents (RFC 4120, 3.2.3).
use Rattle.std.specs.Prelude.{◌≡◌, ℕ, pos, List}
use Rattle.krb_accept_rules.specs.Accepted.{accepted_of, entry_of}
use Rattle.krb_accept_rules.specs.AuthenticatorRules.{AuthenticatorRule, ShowsTime, authenticator_order}
use Rattle.krb_accept_rules.specs.FirstFault.{Keeps, RefusesFirst}
use Rattle.krb_accept_rules.specs.Firsts.{IsFirst, NoneIs}
use Rattle.krb_accept_rules.specs.Keys.{IsForTicket, keys_for}
use Rattle.krb_accept_rules.specs.Refusals.{plain}
use Rattle.krb_accept_rules.specs.RequestRules.{RequestRule, ShowsOfRequest, request_order}
use Rattle.krb_accept_rules.specs.SessionRules.{SessionRule, ShowsNothing, session_order}
use Rattle.krb_accept_rules.specs.Values.{HasNone, IsTheValue}
use Rattle.krb_accept_rules.specs.declared.accepted.Accepted.{Accepted}
use Rattle.krb_accept_rules.specs.declared.cache.Entry.{Entry}
use Rattle.krb_accept_rules.specs.declared.fields.AuthenticatorFields.{AuthenticatorFields}
use Rattle.krb_accept_rules.specs.declared.fields.RequestFields.{RequestFields}
use Rattle.krb_accept_rules.specs.declared.fields.TicketFields.{TicketFields}
use Rattle.krb_accept_rules.specs.declared.key.ServiceKey.{ServiceKey}
use Rattle.krb_accept_rules.specs.declared.opening.Opening.{Ghosts as OpeningOf}
use Rattle.krb_accept_rules.specs.declared.refusal.Refusal.{Refusal}
use Rattle.krb_accept_rules.specs.declared.refusal.Rule.TheVariants as Rules
use Rattle.krb_accept_rules.specs.declared.terms.Arrival.{Arrival}
use Rattle.krb_accept_rules.specs.declared.terms.Terms.{Terms}

-- ---- the ticket

-- the ticket says that it is sealed under the key, and it is
abbrev pub OpensTicket : {O : Type 0} → OpeningOf O → RequestFields → ServiceKey → Type 0
OpensTicket o r key = IsForTicket r key × ((ticket : TicketFields) × o.opens_ticket key r ticket)

-- The octets are this request, which keeps the rules; its ticket is sealed under this key, the first that opens it, and holds this.
pub record HasTicket {O : Type 0} (o : OpeningOf O) (keys session_keys : List ServiceKey) (terms : Terms) (octets : List ℕ)
    (r : RequestFields) (key : ServiceKey) (ticket : TicketFields) : Type 0 where
  pub is_request : IsTheValue (o.reads octets) r
  pub keeps : Keeps (RequestRule o terms keys session_keys r) request_order
  pub is_key : IsFirst (OpensTicket o r) (keys_for r keys session_keys) key
  pub is_ticket : IsTheValue (o.opens_ticket key r) ticket

-- Why they are not, by the first rule that is broken: they are no request; it breaks a rule; or none of the keys opens its ticket.
pub data HasNoTicket {O : Type 0} (o : OpeningOf O) (keys session_keys : List ServiceKey) (terms : Terms) (octets : List ℕ) (e : Refusal) : Type 0 where
  no_request : e ≡ plain Rules.NotRequest → HasNone (o.reads octets) → HasNoTicket o keys session_keys terms octets e
  at_request : (r : RequestFields) → IsTheValue (o.reads octets) r → RefusesFirst (RequestRule o terms keys session_keys r) (ShowsOfRequest r) request_order e
      → HasNoTicket o keys session_keys terms octets e
  no_key : (r : RequestFields) → IsTheValue (o.reads octets) r → Keeps (RequestRule o terms keys session_keys r) request_order
      → e ≡ plain Rules.Ticket → NoneIs (OpensTicket o r) (keys_for r keys session_keys) → HasNoTicket o keys session_keys terms octets e

-- ---- the authenticator

-- The session key keeps the rules; the authenticator is sealed under it and is this; all rules are kept but those of the cache.
pub record IsJudged {O : Type 0} (o : OpeningOf O) (terms : Terms) (arrival : Arrival) (r : RequestFields) (v : TicketFields)
    (u : AuthenticatorFields) (microseconds : ℕ) : Type 0 where
  pub keeps_session : Keeps (SessionRule o terms r v) session_order
  pub is_authenticator : IsTheValue (o.opens_authenticator v.key r) u
  pub keeps : Keeps (AuthenticatorRule o terms arrival v u) authenticator_order
  pub is_microseconds : u.cusec ≡ pos microseconds

-- Why they are not, by the first rule that is broken.
pub data IsNotJudged {O : Type 0} (o : OpeningOf O) (terms : Terms) (arrival : Arrival) (r : RequestFields) (v : TicketFields) (e : Refusal) : Type 0 where
  session_breaks : RefusesFirst (SessionRule o terms r v) ShowsNothing session_order e → IsNotJudged o terms arrival r v e
  not_opened : Keeps (SessionRule o terms r v) session_order → e ≡ plain Rules.Authenticator → HasNone (o.opens_authenticator v.key r)
      → IsNotJudged o terms arrival r v e
  authenticator_breaks : (u : AuthenticatorFields) → Keeps (SessionRule o terms r v) session_order → IsTheValue (o.opens_authenticator v.key r) u
      → RefusesFirst (AuthenticatorRule o terms arrival v u) (ShowsTime v u) authenticator_order e → IsNotJudged o terms arrival r v e

-- ---- all of it

-- The octets are a request with a ticket under this key; its authenticator is sealed under the session key; all rules are kept but those of
-- the cache. This is to be remembered of it, and this is told where the cache's rules are kept too.
pub record IsPresented {O : Type 0} (o : OpeningOf O) (keys session_keys : List ServiceKey) (terms : Terms) (arrival : Arrival) (octets : List ℕ)
    (key : ServiceKey) (entry : Entry) (a : Accepted) : Type 0 where
  pub request : RequestFields
  pub ticket : TicketFields
  pub authenticator : AuthenticatorFields
  pub microseconds : ℕ
  pub has_ticket : HasTicket o keys session_keys terms octets request key ticket
  pub keeps_session : Keeps (SessionRule o terms request ticket) session_order
  pub is_authenticator : IsTheValue (o.opens_authenticator ticket.key request) authenticator
  pub keeps : Keeps (AuthenticatorRule o terms arrival ticket authenticator) authenticator_order
  pub is_microseconds : authenticator.cusec ≡ pos microseconds
  pub is_entry : entry ≡ entry_of request authenticator microseconds
  pub tells : a ≡ accepted_of request ticket authenticator

-- Why they are not, by the first rule that is broken: there is no ticket; it or its session key breaks a rule; the authenticator is not
-- sealed under the session key; or it breaks a rule beside the ticket.
pub data IsNotPresented {O : Type 0} (o : OpeningOf O) (keys session_keys : List ServiceKey) (terms : Terms) (arrival : Arrival) (octets : List ℕ)
    (e : Refusal) : Type 0 where
  no_ticket : HasNoTicket o keys session_keys terms octets e → IsNotPresented o keys session_keys terms arrival octets e
  at_session : (r : RequestFields) (key : ServiceKey) (v : TicketFields) → HasTicket o keys session_keys terms octets r key v
      → RefusesFirst (SessionRule o terms r v) ShowsNothing session_order e → IsNotPresented o keys session_keys terms arrival octets e
  no_authenticator : (r : RequestFields) (key : ServiceKey) (v : TicketFields) → HasTicket o keys session_keys terms octets r key v
      → Keeps (SessionRule o terms r v) session_order
      → e ≡ plain Rules.Authenticator → HasNone (o.opens_authenticator v.key r) → IsNotPresented o keys session_keys terms arrival octets e
  at_authenticator : (r : RequestFields) (key : ServiceKey) (v : TicketFields) (u : AuthenticatorFields)
      → HasTicket o keys session_keys terms octets r key v
      → Keeps (SessionRule o terms r v) session_order → IsTheValue (o.opens_authenticator v.key r) u
      → RefusesFirst (AuthenticatorRule o terms arrival v u) (ShowsTime v u) authenticator_order e
      → IsNotPresented o keys session_keys terms arrival octets e
