-- A call has one refusal.
use Rattle.std.proofs.Common.{◌≡◌, inl, inr, ◌⊎◌, ℕ, ℤ, Option, None, Some, List, refl, sym, subst, ap, ◌∙◌}
use Rattle.krb_accept_rules.specs.Accepting.{IsNotAdmitted, IsRefused}
use Rattle.krb_accept_rules.specs.AuthenticatorRules.{AuthenticatorRule, ShowsTime, authenticator_order}
use Rattle.krb_accept_rules.specs.FirstFault.{BreaksFirst, RefusesFirst}
use Rattle.krb_accept_rules.specs.Keys.{ShowsVersion}
use Rattle.krb_accept_rules.specs.Presenting.{HasNoTicket, HasTicket, IsNotPresented}
use Rattle.krb_accept_rules.specs.Presenting as why
use Rattle.krb_accept_rules.specs.Refusals.{plain}
use Rattle.krb_accept_rules.specs.RequestRules.{RequestRule, ShowsOfRequest, request_order}
use Rattle.krb_accept_rules.specs.SessionRules.{SessionRule, ShowsNothing, session_order}
use Rattle.krb_accept_rules.specs.declared.cache.Entry.{Entry}
use Rattle.krb_accept_rules.specs.declared.fields.AuthenticatorFields.{AuthenticatorFields}
use Rattle.krb_accept_rules.specs.declared.fields.RequestFields.{RequestFields}
use Rattle.krb_accept_rules.specs.declared.fields.TicketFields.{TicketFields}
use Rattle.krb_accept_rules.specs.declared.key.ServiceKey.{ServiceKey}
use Rattle.krb_accept_rules.specs.declared.opening.Opening.{Ghosts as OpeningOf}
use Rattle.krb_accept_rules.specs.declared.refusal.Refusal.{Refusal}
use Rattle.krb_accept_rules.specs.declared.refusal.Rule.{Rule}
use Rattle.krb_accept_rules.specs.declared.refusal.Rule.TheVariants as Rules
use Rattle.krb_accept_rules.specs.declared.terms.Arrival.{Arrival}
use Rattle.krb_accept_rules.specs.declared.terms.Terms.{Terms}
use Rattle.krb_accept_rules.proofs.FirstFaults.{keeps_all, one_fault}
use Rattle.krb_accept_rules.proofs.Once.{not_absent, not_refused}
use Rattle.krb_accept_rules.proofs.Same.{AreSameTickets, one_presented, one_ticket, same_authenticator}

-- ---- what a refusal shows

one_version : (named s t : Option ℤ) → ShowsVersion named s → ShowsVersion named t → s ≡ t
one_version None s t h k = h ∙ sym k
one_version (Some kvno) None None h k = refl
one_version (Some kvno) None (Some y) h k = absurd (h k.0)
one_version (Some kvno) (Some x) None h k = absurd (k h.0)
one_version (Some kvno) (Some x) (Some y) h k = ap (λ (z : ℤ). Some z) (h.1 ∙ sym k.1)

one_of_request : (r : RequestFields) (rule : Rule) (s t : Option ℤ) → ShowsOfRequest r rule s → ShowsOfRequest r rule t → s ≡ t
one_of_request r Rules.KeyVersion s t h k = one_version r.ticket.kvno.0 s t h k
one_of_request r other s t h k = h ∙ sym k

one_time : (v : TicketFields) (u : AuthenticatorFields) (rule : Rule) (s t : Option ℤ) → ShowsTime v u rule s → ShowsTime v u rule t → s ≡ t
one_time v u Rules.Skew s t h k = h ∙ sym k
one_time v u Rules.NotYetValid s t h k = h ∙ sym k
one_time v u Rules.Expired s t h k = h ∙ sym k
one_time v u other s t h k = h ∙ sym k

abbrev pub refusal_of : Rule → Option ℤ → Refusal
refusal_of rule seen = record { rule = rule; seen = seen }

same_refusal : (a b : Rule) (s t : Option ℤ) → a ≡ b → s ≡ t → refusal_of a s ≡ refusal_of b t
same_refusal a b s t e f = ap (λ x. refusal_of x s) e ∙ ap (λ x. refusal_of b x) f

one_refuses : (holds : Rule → Type 0) (shows : Rule → Option ℤ → Type 0) (order : List Rule) (e d : Refusal)
    → ((rule : Rule) (s t : Option ℤ) → shows rule s → shows rule t → s ≡ t) → RefusesFirst holds shows order e → RefusesFirst holds shows order d → e ≡ d
one_refuses holds shows order e d one p q =
    let rules = one_fault holds order e.rule d.rule p.0 q.0 in
    same_refusal e.rule d.rule e.seen d.seen rules (one d.rule e.seen d.seen (subst (λ x. shows x e.seen) rules p.1) q.1)

-- ---- the reasons

module _ {O : Type 0} (o : OpeningOf O) (keys session_keys : List ServiceKey) (terms : Terms) (octets : List ℕ) (e d : Refusal) where
  one_no_ticket : HasNoTicket o keys session_keys terms octets e → HasNoTicket o keys session_keys terms octets d → e ≡ d
  one_no_ticket (why.no_request a none) (why.no_request b more) = a ∙ sym b
  one_no_ticket (why.no_request a none) (why.at_request s is q) = absurd (none s is.holds)
  one_no_ticket (why.no_request a none) (why.no_key s is kept b more) = absurd (none s is.holds)
  one_no_ticket (why.at_request r is p) (why.no_request b none) = absurd (none r is.holds)
  one_no_ticket (why.at_request r is p) (why.at_request s other q) =
      one_refuses (RequestRule o terms keys session_keys r) (ShowsOfRequest r) request_order e d (one_of_request r) p
      (subst (λ (x : RequestFields). RefusesFirst (RequestRule o terms keys session_keys x) (ShowsOfRequest x) request_order d) (sym (other.only r is.holds)) q)
  one_no_ticket (why.at_request r is p) (why.no_key s other kept b none) =
      absurd (keeps_all (RequestRule o terms keys session_keys s) request_order e.rule kept
      (subst (λ (x : RequestFields). BreaksFirst (RequestRule o terms keys session_keys x) request_order e.rule) (other.only r is.holds) p.0))
  one_no_ticket (why.no_key r is kept a none) (why.no_request b more) = absurd (more r is.holds)
  one_no_ticket (why.no_key r is kept a none) (why.at_request s other q) =
      absurd (keeps_all (RequestRule o terms keys session_keys r) request_order d.rule kept
      (subst (λ (x : RequestFields). BreaksFirst (RequestRule o terms keys session_keys x) request_order d.rule) (sym (other.only r is.holds)) q.0))
  one_no_ticket (why.no_key r is kept a none) (why.no_key s other more b none_too) = a ∙ sym b

-- what breaks the rules of one breaks those of the other
same_session : {O : Type 0} (o : OpeningOf O) (terms : Terms) (r s : RequestFields) (k l : ServiceKey) (v w : TicketFields) (e : Refusal) → AreSameTickets r s k l v w
    → RefusesFirst (SessionRule o terms s w) ShowsNothing session_order e → RefusesFirst (SessionRule o terms r v) ShowsNothing session_order e
same_session o terms r s k l v w e same h =
    subst (λ (x : RequestFields). RefusesFirst (SessionRule o terms x v) ShowsNothing session_order e) (sym same.requests)
    (subst (λ (x : TicketFields). RefusesFirst (SessionRule o terms s x) ShowsNothing session_order e) (sym same.tickets) h)

same_rules : {O : Type 0} (o : OpeningOf O) (terms : Terms) (arrival : Arrival) (v w : TicketFields) (u x : AuthenticatorFields) (e : Refusal) → v ≡ w → u ≡ x
    → RefusesFirst (AuthenticatorRule o terms arrival w x) (ShowsTime w x) authenticator_order e → RefusesFirst (AuthenticatorRule o terms arrival v u) (ShowsTime v u) authenticator_order e
same_rules o terms arrival v w u x e f g h =
    subst (λ (y : TicketFields). RefusesFirst (AuthenticatorRule o terms arrival y u) (ShowsTime y u) authenticator_order e) (sym f)
    (subst (λ (y : AuthenticatorFields). RefusesFirst (AuthenticatorRule o terms arrival w y) (ShowsTime w y) authenticator_order e) (sym g) h)

module _ {O : Type 0} (o : OpeningOf O) (keys session_keys : List ServiceKey) (terms : Terms) (arrival : Arrival) (octets : List ℕ) (e d : Refusal) where
  one_not_presented : IsNotPresented o keys session_keys terms arrival octets e → IsNotPresented o keys session_keys terms arrival octets d → e ≡ d
  one_not_presented (why.no_ticket n) (why.no_ticket m) = one_no_ticket o keys session_keys terms octets e d n m
  one_not_presented (why.no_ticket n) (why.at_session s l w h q) = absurd (not_absent o keys session_keys terms octets e s l w h n)
  one_not_presented (why.no_ticket n) (why.no_authenticator s l w h kept b none) = absurd (not_absent o keys session_keys terms octets e s l w h n)
  one_not_presented (why.no_ticket n) (why.at_authenticator s l w u h kept is q) = absurd (not_absent o keys session_keys terms octets e s l w h n)
  one_not_presented (why.at_session r k v g p) (why.no_ticket m) = absurd (not_absent o keys session_keys terms octets d r k v g m)
  one_not_presented (why.at_session r k v g p) (why.at_session s l w h q) =
      one_refuses (SessionRule o terms r v) ShowsNothing session_order e d (λ rule s' t' a b. a ∙ sym b) p
      (same_session o terms r s k l v w d (one_ticket o keys session_keys terms terms octets r s k l v w g h) q)
  one_not_presented (why.at_session r k v g p) (why.no_authenticator s l w h kept b none) =
      absurd (keeps_all (SessionRule o terms s w) session_order e.rule kept (same_session o terms s r l k w v e (one_ticket o keys session_keys terms terms octets s r l k w v h g) p).0)
  one_not_presented (why.at_session r k v g p) (why.at_authenticator s l w u h kept is q) =
      absurd (keeps_all (SessionRule o terms s w) session_order e.rule kept (same_session o terms s r l k w v e (one_ticket o keys session_keys terms terms octets s r l k w v h g) p).0)
  one_not_presented (why.no_authenticator r k v g kept a none) (why.no_ticket m) = absurd (not_absent o keys session_keys terms octets d r k v g m)
  one_not_presented (why.no_authenticator r k v g kept a none) (why.at_session s l w h q) =
      absurd (keeps_all (SessionRule o terms r v) session_order d.rule kept (same_session o terms r s k l v w d (one_ticket o keys session_keys terms terms octets r s k l v w g h) q).0)
  one_not_presented (why.no_authenticator r k v g kept a none) (why.no_authenticator s l w h too b more) = a ∙ sym b
  one_not_presented (why.no_authenticator r k v g kept a none) (why.at_authenticator s l w u h too is q) =
      absurd (none u (same_authenticator o s r l k w v u (one_ticket o keys session_keys terms terms octets s r l k w v h g) is.holds))
  one_not_presented (why.at_authenticator r k v u g kept is p) (why.no_ticket m) = absurd (not_absent o keys session_keys terms octets d r k v g m)
  one_not_presented (why.at_authenticator r k v u g kept is p) (why.at_session s l w h q) =
      absurd (keeps_all (SessionRule o terms r v) session_order d.rule kept (same_session o terms r s k l v w d (one_ticket o keys session_keys terms terms octets r s k l v w g h) q).0)
  one_not_presented (why.at_authenticator r k v u g kept is p) (why.no_authenticator s l w h too b none) =
      absurd (none u (same_authenticator o r s k l v w u (one_ticket o keys session_keys terms terms octets r s k l v w g h) is.holds))
  one_not_presented (why.at_authenticator r k v u g kept is p) (why.at_authenticator s l w x h too other q) =
      let same = one_ticket o keys session_keys terms terms octets r s k l v w g h in
      let authenticators = other.only u (same_authenticator o r s k l v w u same is.holds) in
      one_refuses (AuthenticatorRule o terms arrival v u) (ShowsTime v u) authenticator_order e d (one_time v u) p
      (same_rules o terms arrival v w u x d same.tickets authenticators q)

one_not_admitted : (terms : Terms) (entry : Entry) (seen : List Entry) (e d : Refusal) → IsNotAdmitted terms entry seen e → IsNotAdmitted terms entry seen d → e ≡ d
one_not_admitted terms entry seen e d (inl p) (inl q) = p.0 ∙ sym q.0
one_not_admitted terms entry seen e d (inl p) (inr q) = absurd (p.1 q.1)
one_not_admitted terms entry seen e d (inr p) (inl q) = absurd (q.1 p.1)
one_not_admitted terms entry seen e d (inr p) (inr q) = p.0 ∙ sym q.0

pub one_refusal : {O : Type 0} (o : OpeningOf O) (keys session_keys : List ServiceKey) (terms : Terms) (arrival : Arrival) (octets : List ℕ) (seen : List Entry) (e d : Refusal)
    → IsRefused o keys session_keys terms arrival octets seen e → IsRefused o keys session_keys terms arrival octets seen d
    → (e ≡ plain Rules.OutOfMemory) ⊎ ((d ≡ plain Rules.OutOfMemory) ⊎ (e ≡ d))
one_refusal o keys session_keys terms arrival octets seen e d (inl m) q = inl m
one_refusal o keys session_keys terms arrival octets seen e d (inr p) (inl m) = inr (inl m)
one_refusal o keys session_keys terms arrival octets seen e d (inr (inl n)) (inr (inl m)) = inr (inr (one_not_presented o keys session_keys terms arrival octets e d n m))
one_refusal o keys session_keys terms arrival octets seen e d (inr (inl n)) (inr (inr t)) =
    absurd (not_refused o keys session_keys terms arrival arrival octets t.key t.entry t.told e t.presented t.presented.keeps n)
one_refusal o keys session_keys terms arrival octets seen e d (inr (inr t)) (inr (inl m)) =
    absurd (not_refused o keys session_keys terms arrival arrival octets t.key t.entry t.told d t.presented t.presented.keeps m)
one_refusal o keys session_keys terms arrival octets seen e d (inr (inr t)) (inr (inr s)) =
    let same = one_presented o keys session_keys terms terms arrival arrival octets t.key s.key t.entry s.entry t.told s.told t.presented s.presented in
    inr (inr (one_not_admitted terms t.entry seen e d t.refused (subst (λ (x : Entry). IsNotAdmitted terms x seen d) (sym same.entries) s.refused)))
