-- Octets present one request, one ticket, one authenticator, and so one entry.
use Rattle.std.proofs.Common.{◌≡◌, ℕ, pos, List, sym, subst, ap, ◌∙◌}
use Rattle.krb_accept_rules.specs.Accepted.{accepted_of, entry_of}
use Rattle.krb_accept_rules.specs.Firsts.{IsFirst}
use Rattle.krb_accept_rules.specs.Keys.{keys_for}
use Rattle.krb_accept_rules.specs.Presenting.{HasTicket, IsPresented, OpensTicket}
use Rattle.krb_accept_rules.specs.declared.accepted.Accepted.{Accepted}
use Rattle.krb_accept_rules.specs.declared.cache.Entry.{Entry}
use Rattle.krb_accept_rules.specs.declared.fields.AuthenticatorFields.{AuthenticatorFields}
use Rattle.krb_accept_rules.specs.declared.fields.RequestFields.{RequestFields}
use Rattle.krb_accept_rules.specs.declared.fields.TicketFields.{TicketFields}
use Rattle.krb_accept_rules.specs.declared.key.ServiceKey.{ServiceKey}
use Rattle.krb_accept_rules.specs.declared.opening.Opening.{Ghosts as OpeningOf}
use Rattle.krb_accept_rules.specs.declared.terms.Arrival.{Arrival}
use Rattle.krb_accept_rules.specs.declared.terms.Terms.{Terms}
use Rattle.krb_accept_rules.proofs.Firsts.{one_first}

-- ---- the ticket

pub record AreSameTickets (r s : RequestFields) (k l : ServiceKey) (v w : TicketFields) : Type 0 where
  pub requests : r ≡ s
  pub keys : k ≡ l
  pub tickets : v ≡ w

module _ {O : Type 0} (o : OpeningOf O) (keys session_keys : List ServiceKey) (terms other : Terms) (octets : List ℕ) (r s : RequestFields) (k l : ServiceKey) (v w : TicketFields) where
  one_key : r ≡ s → HasTicket o keys session_keys terms octets r k v → HasTicket o keys session_keys other octets s l w → k ≡ l
  one_key e p q =
      one_first (OpensTicket o r) (keys_for r keys session_keys) k l p.is_key
      (subst (λ (x : RequestFields). IsFirst (OpensTicket o x) (keys_for x keys session_keys) l) (sym e) q.is_key)

  same_holds : r ≡ s → k ≡ l → o.opens_ticket k r v → o.opens_ticket l s v
  same_holds e f h = subst (λ (x : ServiceKey). o.opens_ticket x s v) f (subst (λ (x : RequestFields). o.opens_ticket k x v) e h)

  -- octets have one ticket
  pub one_ticket : HasTicket o keys session_keys terms octets r k v → HasTicket o keys session_keys other octets s l w → AreSameTickets r s k l v w
  one_ticket p q =
      let e = q.is_request.only r p.is_request.holds in
      let f = one_key e p q in
      record { requests = e; keys = f; tickets = q.is_ticket.only v (same_holds e f p.is_ticket.holds) }

-- ---- the authenticator

-- what is sealed under the session key of one is under that of the other
pub same_authenticator : {O : Type 0} (o : OpeningOf O) (r s : RequestFields) (k l : ServiceKey) (v w : TicketFields) (u : AuthenticatorFields) → AreSameTickets r s k l v w
    → o.opens_authenticator v.key r u → o.opens_authenticator w.key s u
same_authenticator o r s k l v w u same h =
    subst (λ (x : TicketFields). o.opens_authenticator x.key s u) same.tickets (subst (λ (x : RequestFields). o.opens_authenticator v.key x u) same.requests h)

one_number : (m n : ℕ) → pos m ≡ pos n → m ≡ n
one_number m n e = cc

same_entry : (r s : RequestFields) (u v : AuthenticatorFields) (m n : ℕ) → r ≡ s → u ≡ v → m ≡ n → entry_of r u m ≡ entry_of s v n
same_entry r s u v m n e f g =
    ap (λ (x : RequestFields). entry_of x u m) e ∙ ap (λ (x : AuthenticatorFields). entry_of s x m) f ∙ ap (λ (x : ℕ). entry_of s v x) g

-- this is to be remembered and told alike
pub record AreSame (e d : Entry) (a b : Accepted) : Type 0 where
  pub entries : e ≡ d
  pub told : a ≡ b

-- whoever presents the same octets, whenever and from wherever, presents the same
pub one_presented : {O : Type 0} (o : OpeningOf O) (keys session_keys : List ServiceKey) (terms other : Terms) (first second : Arrival) (octets : List ℕ) (k l : ServiceKey) (e d : Entry) (a b : Accepted)
    → IsPresented o keys session_keys terms first octets k e a → IsPresented o keys session_keys other second octets l d b → AreSame e d a b
one_presented o keys session_keys terms other first second octets k l e d a b p q =
    let same = one_ticket o keys session_keys terms other octets p.request q.request k l p.ticket q.ticket p.has_ticket q.has_ticket in
    let authenticators = q.is_authenticator.only p.authenticator (same_authenticator o p.request q.request k l p.ticket q.ticket p.authenticator same p.is_authenticator.holds) in
    let numbers = one_number p.microseconds q.microseconds (sym p.is_microseconds ∙ ap (λ (v : AuthenticatorFields). v.cusec) authenticators ∙ q.is_microseconds) in
    record {
      entries = p.is_entry ∙ same_entry p.request q.request p.authenticator q.authenticator p.microseconds q.microseconds same.requests authenticators numbers ∙ sym q.is_entry;
      told = p.tells ∙ ap (λ (x : RequestFields). accepted_of x p.ticket p.authenticator) same.requests
          ∙ ap (λ (x : TicketFields). accepted_of q.request x p.authenticator) same.tickets
          ∙ ap (λ (x : AuthenticatorFields). accepted_of q.request q.ticket x) authenticators ∙ sym q.tells;
    }
