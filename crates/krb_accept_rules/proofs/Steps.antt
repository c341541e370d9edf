-- What a step says of the whole.
use Rattle.std.proofs.Common.{◌≡◌, inl, inr, ℕ, List, subst}
use Rattle.krb_accept_rules.specs.Accepting.{IsNotAdmitted, IsRefused}
use Rattle.krb_accept_rules.specs.AuthenticatorRules.{AuthenticatorRule, ShowsTime, authenticator_order}
use Rattle.krb_accept_rules.specs.FirstFault.{Keeps, OrMemory, RefusesFirst}
use Rattle.krb_accept_rules.specs.Firsts.{NoneIs}
use Rattle.krb_accept_rules.specs.Keys.{keys_for}
use Rattle.krb_accept_rules.specs.Presenting.{HasNoTicket, HasTicket, IsNotJudged, IsNotPresented, IsPresented, OpensTicket, at_authenticator, at_session, authenticator_breaks, no_authenticator, no_key, no_ticket, not_opened, session_breaks}
use Rattle.krb_accept_rules.specs.Refusals.{plain}
use Rattle.krb_accept_rules.specs.RequestRules.{RequestRule, request_order}
use Rattle.krb_accept_rules.specs.SessionRules.{SessionRule, session_order}
use Rattle.krb_accept_rules.specs.Values.{HasNone, IsTheValue}
use Rattle.krb_accept_rules.specs.declared.accepted.Accepted.{Accepted}
use Rattle.krb_accept_rules.specs.declared.cache.Entry.{Entry}
use Rattle.krb_accept_rules.specs.declared.fields.AuthenticatorFields.{AuthenticatorFields}
use Rattle.krb_accept_rules.specs.declared.fields.RequestFields.{RequestFields}
use Rattle.krb_accept_rules.specs.declared.fields.TicketFields.{TicketFields}
use Rattle.krb_accept_rules.specs.declared.key.ServiceKey.{ServiceKey}
use Rattle.krb_accept_rules.specs.declared.opening.Opening.{Ghosts as OpeningOf}
use Rattle.krb_accept_rules.specs.declared.refusal.Refusal.{Refusal}
use Rattle.krb_accept_rules.specs.declared.refusal.Rule.TheVariants as Rules
use Rattle.krb_accept_rules.specs.declared.terms.Arrival.{Arrival}
use Rattle.krb_accept_rules.specs.declared.terms.Terms.{Terms}

-- none of the keys opens the ticket
pub no_key_opens : {O : Type 0} (o : OpeningOf O) (keys session_keys candidates : List ServiceKey) (terms : Terms) (octets : List ℕ) (r : RequestFields) (e : Refusal)
    → IsTheValue (o.reads octets) r → Keeps (RequestRule o terms keys session_keys r) request_order → candidates ≡ keys_for r keys session_keys
    → OrMemory (λ d. (d ≡ plain Rules.Ticket) × NoneIs (OpensTicket o r) candidates) e → OrMemory (HasNoTicket o keys session_keys terms octets) e
no_key_opens o keys session_keys candidates terms octets r e is kept same (inl m) = inl m
no_key_opens o keys session_keys candidates terms octets r e is kept same (inr n) =
    inr (no_key r is kept n.0 (subst (λ (l : List ServiceKey). NoneIs (OpensTicket o r) l) same n.1))

module _ {O : Type 0} (o : OpeningOf O) (terms : Terms) (arrival : Arrival) (r : RequestFields) (v : TicketFields) (e : Refusal) where
  -- the authenticator is not sealed under the session key
  pub not_an_authenticator : Keeps (SessionRule o terms r v) session_order → OrMemory (λ d. (d ≡ plain Rules.Authenticator) × HasNone (o.opens_authenticator v.key r)) e
      → OrMemory (IsNotJudged o terms arrival r v) e
  not_an_authenticator kept (inl m) = inl m
  not_an_authenticator kept (inr n) = inr (not_opened kept n.0 n.1)

  -- a rule of these is broken
  pub not_kept : (u : AuthenticatorFields) → Keeps (SessionRule o terms r v) session_order → IsTheValue (o.opens_authenticator v.key r) u
      → OrMemory (RefusesFirst (AuthenticatorRule o terms arrival v u) (ShowsTime v u) authenticator_order) e → OrMemory (IsNotJudged o terms arrival r v) e
  not_kept u kept is (inl m) = inl m
  not_kept u kept is (inr n) = inr (authenticator_breaks u kept is n)

module _ {O : Type 0} (o : OpeningOf O) (keys session_keys : List ServiceKey) (terms : Terms) (arrival : Arrival) (octets : List ℕ) (e : Refusal) where
  -- there is no ticket
  pub not_a_ticket : OrMemory (HasNoTicket o keys session_keys terms octets) e → OrMemory (IsNotPresented o keys session_keys terms arrival octets) e
  not_a_ticket (inl m) = inl m
  not_a_ticket (inr n) = inr (no_ticket n)

  -- what the ticket's request has beside it is not as the rules say
  pub not_judged : (r : RequestFields) (k : ServiceKey) (v : TicketFields) → HasTicket o keys session_keys terms octets r k v → OrMemory (IsNotJudged o terms arrival r v) e
      → OrMemory (IsNotPresented o keys session_keys terms arrival octets) e
  not_judged r k v h (inl m) = inl m
  not_judged r k v h (inr (session_breaks n)) = inr (at_session r k v h n)
  not_judged r k v h (inr (not_opened kept is none)) = inr (no_authenticator r k v h kept is none)
  not_judged r k v h (inr (authenticator_breaks u kept is n)) = inr (at_authenticator r k v u h kept is n)

  -- what is not presented is refused
  pub not_presented : (seen : List Entry) → OrMemory (IsNotPresented o keys session_keys terms arrival octets) e → IsRefused o keys session_keys terms arrival octets seen e
  not_presented seen (inl m) = inl m
  not_presented seen (inr n) = inr (inl n)

  -- and what is not admitted
  pub not_admitted : (seen : List Entry) (k : ServiceKey) (entry : Entry) (a : Accepted) → IsPresented o keys session_keys terms arrival octets k entry a
      → OrMemory (IsNotAdmitted terms entry seen) e → IsRefused o keys session_keys terms arrival octets seen e
  not_admitted seen k entry a p (inl m) = inl m
  not_admitted seen k entry a p (inr n) = inr (inr (record { key = k; entry = entry; told = a; presented = p; refused = n }))
