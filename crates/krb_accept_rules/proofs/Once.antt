-- The same octets are not let in twice.
use Rattle.std.proofs.Common.{◌≡◌, inl, inr, ◌⊎◌, ℕ, ℤ, pos, ◌+ℤ◌, ◌≤ℤ◌, ◌<ℤ◌, Some, List, sym, subst, ap, ◌∙◌, arith}
use Rattle.std.proofs.lemmas.Int.{ints}
use Rattle.krb_types.specs.Times.{unix_seconds}
use Rattle.krb_accept_rules.specs.Accepting.{IsAccepted, IsNotAdmitted, IsRefused}
use Rattle.krb_accept_rules.specs.AuthenticatorRules.{AuthenticatorRule, FitsAddress, authenticator_order}
use Rattle.krb_accept_rules.specs.FirstFault.{BreaksFirst, Keeps}
use Rattle.krb_accept_rules.specs.Firsts.{NoneIs}
use Rattle.krb_accept_rules.specs.Keys.{keys_for}
use Rattle.krb_accept_rules.specs.Names.{IsAmong}
use Rattle.krb_accept_rules.specs.Presenting.{HasNoTicket, HasTicket, IsNotPresented, IsPresented, OpensTicket}
use Rattle.krb_accept_rules.specs.Presenting as why
use Rattle.krb_accept_rules.specs.Refusals.{plain}
use Rattle.krb_accept_rules.specs.Remembering.{IsHistory, Step}
use Rattle.krb_accept_rules.specs.RequestRules.{RequestRule, request_order}
use Rattle.krb_accept_rules.specs.SessionRules.{SessionRule, session_order}
use Rattle.krb_accept_rules.specs.TicketTimes.{end_of, start_of}
use Rattle.krb_accept_rules.specs.Times.{IsOfWhole, IsWithin}
use Rattle.krb_accept_rules.specs.declared.accepted.Accepted.{Accepted}
use Rattle.krb_accept_rules.specs.declared.cache.Entry.{Entry}
use Rattle.krb_accept_rules.specs.declared.fields.AuthenticatorFields.{AuthenticatorFields}
use Rattle.krb_accept_rules.specs.declared.fields.RequestFields.{RequestFields}
use Rattle.krb_accept_rules.specs.declared.fields.TicketFields.{TicketFields}
use Rattle.krb_accept_rules.specs.declared.key.ServiceKey.{ServiceKey}
use Rattle.krb_accept_rules.specs.declared.opening.Opening.{Ghosts as OpeningOf}
use Rattle.krb_accept_rules.specs.declared.refusal.Refusal.{Refusal}
use Rattle.krb_accept_rules.specs.declared.refusal.Rule.TheVariants as Rules
use Rattle.krb_accept_rules.specs.declared.terms.Arrival.{Arrival}
use Rattle.krb_accept_rules.specs.declared.terms.Terms.{Terms}
use Rattle.krb_accept_rules.proofs.Among.{stays}
use Rattle.krb_accept_rules.proofs.FirstFaults.{keeps_all}
use Rattle.krb_accept_rules.proofs.Firsts.{none_first}
use Rattle.krb_accept_rules.proofs.Same.{one_presented, one_ticket, same_authenticator}

-- ---- the entry

-- the clock is within the skew of what is to be remembered
pub within : {O : Type 0} (o : OpeningOf O) (keys session_keys : List ServiceKey) (terms : Terms) (arrival : Arrival) (octets : List ℕ) (k : ServiceKey) (e : Entry) (a : Accepted)
    → IsPresented o keys session_keys terms arrival octets k e a → IsWithin arrival.clock terms.skew e.seconds
within o keys session_keys terms arrival octets k e a p =
    subst (λ (x : Entry). IsWithin arrival.clock terms.skew x.seconds) (sym p.is_entry) p.keeps.1.1.1.1.1.1.0

-- the client's time is that which is remembered
same_time : {O : Type 0} (o : OpeningOf O) (keys session_keys : List ServiceKey) (terms : Terms) (arrival : Arrival) (octets : List ℕ) (k : ServiceKey) (e : Entry) (a : Accepted)
    → IsPresented o keys session_keys terms arrival octets k e a → unix_seconds a.ctime ≡ e.seconds
same_time o keys session_keys terms arrival octets k e a p =
    ap (λ (x : Accepted). unix_seconds x.ctime) p.tells ∙ sym (ap (λ (x : Entry). x.seconds) p.is_entry)

-- what was let in is remembered, as long as a clock is within the skew
pub remembered : {O : Type 0} (o : OpeningOf O) (keys session_keys : List ServiceKey) (terms : Terms) (first : Arrival) (octets : List ℕ) (steps : List Step) (clock : ℤ) (seen after later : List Entry) (a : Accepted)
    → (p : IsAccepted o keys session_keys terms first octets seen after a) → IsHistory terms.skew clock steps after later → clock ≤ℤ (p.entry.seconds +ℤ pos terms.skew) → IsAmong later p.entry
remembered o keys session_keys terms first octets steps clock seen after later a p h fits =
    stays terms.skew clock steps after later p.entry h p.admitted.remembered.there fits

pub once : {O : Type 0} (o : OpeningOf O) (keys session_keys : List ServiceKey) (terms : Terms) (first second : Arrival) (octets : List ℕ) (steps : List Step) (seen after later last : List Entry) (a b : Accepted)
    → IsAccepted o keys session_keys terms first octets seen after a → IsHistory terms.skew second.clock steps after later → IsAccepted o keys session_keys terms second octets later last b → ⊥
once o keys session_keys terms first second octets steps seen after later last a b p h q =
    let same = one_presented o keys session_keys terms terms first second octets p.key q.key p.entry q.entry a b p.presented q.presented in
    let fits = subst (λ (x : Entry). IsWithin second.clock terms.skew x.seconds) (sym same.entries) (within o keys session_keys terms second octets q.key q.entry b q.presented) in
    q.admitted.is_new (subst (IsAmong later) same.entries (remembered o keys session_keys terms first octets steps second.clock seen after later a p h fits.1))

-- ---- over a restart

not_of_whole : (clock since time : ℤ) (skew : ℕ) → time ≤ℤ (clock +ℤ pos skew) → clock <ℤ since → (since +ℤ pos skew) ≤ℤ time → ⊥
not_of_whole clock since time skew h k w = omega (arith, ints)

pub over_restarts : {O : Type 0} (o : OpeningOf O) (keys session_keys : List ServiceKey) (terms other : Terms) (first second : Arrival) (since : ℤ) (octets : List ℕ) (seen after later last : List Entry) (a b : Accepted)
    → IsAccepted o keys session_keys terms first octets seen after a → other.skew ≡ terms.skew → other.whole_since ≡ Some since → first.clock <ℤ since
    → IsAccepted o keys session_keys other second octets later last b → ⊥
over_restarts o keys session_keys terms other first second since octets seen after later last a b p skews is before q =
    let same = one_presented o keys session_keys terms other first second octets p.key q.key p.entry q.entry a b p.presented q.presented in
    let early = within o keys session_keys terms first octets p.key p.entry a p.presented in
    let whole = subst (λ w. IsOfWhole w terms.skew p.entry.seconds) is
    (subst (λ s. IsOfWhole other.whole_since s p.entry.seconds) skews (subst (λ (x : Entry). IsOfWhole other.whole_since other.skew x.seconds) (sym same.entries) q.admitted.whole)) in
    not_of_whole first.clock since p.entry.seconds terms.skew early.0 before whole

-- ---- what is presented is not refused as if it were not

module _ {O : Type 0} (o : OpeningOf O) (keys session_keys : List ServiceKey) (terms : Terms) (octets : List ℕ) (e : Refusal) where
  pub not_absent : (r : RequestFields) (k : ServiceKey) (v : TicketFields) → HasTicket o keys session_keys terms octets r k v → HasNoTicket o keys session_keys terms octets e → ⊥
  not_absent r k v p (why.no_request same none) = none r p.is_request.holds
  not_absent r k v p (why.at_request s is refuses) =
      keeps_all (RequestRule o terms keys session_keys r) request_order e.rule p.keeps
      (subst (λ (x : RequestFields). BreaksFirst (RequestRule o terms keys session_keys x) request_order e.rule) (sym (is.only r p.is_request.holds)) refuses.0)
  not_absent r k v p (why.no_key s is kept same none) =
      none_first (OpensTicket o r) (keys_for r keys session_keys)
      (subst (λ (x : RequestFields). NoneIs (OpensTicket o x) (keys_for x keys session_keys)) (sym (is.only r p.is_request.holds)) none) (k, p.is_key)

pub not_refused : {O : Type 0} (o : OpeningOf O) (keys session_keys : List ServiceKey) (terms : Terms) (first second : Arrival) (octets : List ℕ) (k : ServiceKey) (d : Entry) (a : Accepted) (e : Refusal)
    → (p : IsPresented o keys session_keys terms first octets k d a) → Keeps (AuthenticatorRule o terms second p.ticket p.authenticator) authenticator_order
    → IsNotPresented o keys session_keys terms second octets e → ⊥
not_refused o keys session_keys terms first second octets k d a e p keeps (why.no_ticket n) = not_absent o keys session_keys terms octets e p.request k p.ticket p.has_ticket n
not_refused o keys session_keys terms first second octets k d a e p keeps (why.at_session s l w h refuses) =
    let same = one_ticket o keys session_keys terms terms octets p.request s k l p.ticket w p.has_ticket h in
    keeps_all (SessionRule o terms p.request p.ticket) session_order e.rule p.keeps_session
    (subst (λ (x : RequestFields). BreaksFirst (SessionRule o terms x p.ticket) session_order e.rule) (sym same.requests)
    (subst (λ (x : TicketFields). BreaksFirst (SessionRule o terms s x) session_order e.rule) (sym same.tickets) refuses.0))
not_refused o keys session_keys terms first second octets k d a e p keeps (why.no_authenticator s l w h kept is none) =
    let same = one_ticket o keys session_keys terms terms octets p.request s k l p.ticket w p.has_ticket h in
    none p.authenticator (same_authenticator o p.request s k l p.ticket w p.authenticator same p.is_authenticator.holds)
not_refused o keys session_keys terms first second octets k d a e p keeps (why.at_authenticator s l w u h kept is refuses) =
    let same = one_ticket o keys session_keys terms terms octets p.request s k l p.ticket w p.has_ticket h in
    let authenticators = is.only p.authenticator (same_authenticator o p.request s k l p.ticket w p.authenticator same p.is_authenticator.holds) in
    keeps_all (AuthenticatorRule o terms second p.ticket p.authenticator) authenticator_order e.rule keeps
    (subst (λ (x : TicketFields). BreaksFirst (AuthenticatorRule o terms second x p.authenticator) authenticator_order e.rule) (sym same.tickets)
    (subst (λ (x : AuthenticatorFields). BreaksFirst (AuthenticatorRule o terms second w x) authenticator_order e.rule) (sym authenticators) refuses.0))

-- the rules at another time within the skew at which the ticket is valid, from the same address
at_another_time : {O : Type 0} (o : OpeningOf O) (terms : Terms) (first second : Arrival) (v : TicketFields) (u : AuthenticatorFields) → first.address ≡ second.address
    → IsWithin second.clock terms.skew (unix_seconds u.ctime) → start_of v ≤ℤ (second.clock +ℤ pos terms.skew) → second.clock ≤ℤ (end_of v +ℤ pos terms.skew)
    → Keeps (AuthenticatorRule o terms first v u) authenticator_order → Keeps (AuthenticatorRule o terms second v u) authenticator_order
at_another_time o terms first second v u same w start end k =
    let address = subst (λ x. FitsAddress terms.addresses_required x v.addresses) same k.1.1.1.1.1.0 in
    let rest = k.1.1.1.1.1.1.1 in
    (k.0, (k.1.0, (k.1.1.0, (k.1.1.1.0, (k.1.1.1.1.0, (address, (w, (start, (rest.1.0, (end, rest.1.1.1))))))))))

-- and so it is refused as a repeat
turned_away : {O : Type 0} (o : OpeningOf O) (keys session_keys : List ServiceKey) (terms : Terms) (first second : Arrival) (octets : List ℕ) (seen after later : List Entry) (a : Accepted) (d : Entry) (e : Refusal)
    → (p : IsAccepted o keys session_keys terms first octets seen after a) → d ≡ p.entry → IsNotAdmitted terms d later e → e ≡ plain Rules.Repeat
turned_away o keys session_keys terms first second octets seen after later a d e p same (inl n) =
    absurd (n.1 (subst (λ (x : Entry). IsOfWhole terms.whole_since terms.skew x.seconds) (sym same) p.admitted.whole))
turned_away o keys session_keys terms first second octets seen after later a d e p same (inr n) = n.0

pub repeated : {O : Type 0} (o : OpeningOf O) (keys session_keys : List ServiceKey) (terms : Terms) (first second : Arrival) (octets : List ℕ) (seen after later : List Entry) (a : Accepted) (e : Refusal)
    → IsAccepted o keys session_keys terms first octets seen after a → first.address ≡ second.address
    → IsWithin second.clock terms.skew (unix_seconds a.ctime) → start_of a.ticket ≤ℤ (second.clock +ℤ pos terms.skew) → second.clock ≤ℤ (end_of a.ticket +ℤ pos terms.skew)
    → IsRefused o keys session_keys terms second octets later e → (e ≡ plain Rules.OutOfMemory) ⊎ (e ≡ plain Rules.Repeat)
repeated o keys session_keys terms first second octets seen after later a e p same w start end (inl n) = inl n
repeated o keys session_keys terms first second octets seen after later a e p same w start end (inr (inl n)) =
    let in_time = subst (λ (x : Accepted). IsWithin second.clock terms.skew (unix_seconds x.ctime)) p.presented.tells w in
    let begun = subst (λ (x : Accepted). start_of x.ticket ≤ℤ (second.clock +ℤ pos terms.skew)) p.presented.tells start in
    let not_ended = subst (λ (x : Accepted). second.clock ≤ℤ (end_of x.ticket +ℤ pos terms.skew)) p.presented.tells end in
    absurd (not_refused o keys session_keys terms first second octets p.key p.entry a e p.presented
    (at_another_time o terms first second p.presented.ticket p.presented.authenticator same in_time begun not_ended p.presented.keeps) n)
repeated o keys session_keys terms first second octets seen after later a e p same w start end (inr (inr n)) =
    let there = one_presented o keys session_keys terms terms first second octets p.key n.key p.entry n.entry a n.told p.presented n.presented in
    inr (turned_away o keys session_keys terms first second octets seen after later a n.entry e p (sym there.entries) n.refused)

-- ---- one answer

not_turned_away : (terms : Terms) (d : Entry) (seen after : List Entry) (e : Refusal) → IsOfWhole terms.whole_since terms.skew d.seconds → (IsAmong seen d → ⊥) → IsNotAdmitted terms d seen e → ⊥
not_turned_away terms d seen after e whole new (inl n) = n.1 whole
not_turned_away terms d seen after e whole new (inr n) = new n.2

-- what is let in is not refused but for memory
pub not_both : {O : Type 0} (o : OpeningOf O) (keys session_keys : List ServiceKey) (terms : Terms) (arrival : Arrival) (octets : List ℕ) (seen after : List Entry) (a : Accepted) (e : Refusal)
    → IsAccepted o keys session_keys terms arrival octets seen after a → IsRefused o keys session_keys terms arrival octets seen e → e ≡ plain Rules.OutOfMemory
not_both o keys session_keys terms arrival octets seen after a e p (inl n) = n
not_both o keys session_keys terms arrival octets seen after a e p (inr (inl n)) =
    absurd (not_refused o keys session_keys terms arrival arrival octets p.key p.entry a e p.presented p.presented.keeps n)
not_both o keys session_keys terms arrival octets seen after a e p (inr (inr n)) =
    let same = one_presented o keys session_keys terms terms arrival arrival octets p.key n.key p.entry n.entry a n.told p.presented n.presented in
    absurd (not_turned_away terms p.entry seen after e p.admitted.whole p.admitted.is_new (subst (λ (x : Entry). IsNotAdmitted terms x seen e) (sym same.entries) n.refused))

pub told_once : {O : Type 0} (o : OpeningOf O) (keys session_keys : List ServiceKey) (terms : Terms) (arrival : Arrival) (octets : List ℕ) (seen after last : List Entry) (a b : Accepted)
    → IsAccepted o keys session_keys terms arrival octets seen after a → IsAccepted o keys session_keys terms arrival octets seen last b → a ≡ b
told_once o keys session_keys terms arrival octets seen after last a b p q =
    (one_presented o keys session_keys terms terms arrival arrival octets p.key q.key p.entry q.entry a b p.presented q.presented).told
