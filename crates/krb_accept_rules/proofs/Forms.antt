-- What has the same server, client and time has the same entry, whatever octets it was presented by.
use Rattle.std.proofs.Common.{◌≡◌, ℕ, ℤ, pos, List, sym, subst, ap, ◌∙◌}
use Rattle.krb_types.specs.Times.{unix_seconds}
use Rattle.krb_accept_rules.specs.Accepted.{HasSameEntry}
use Rattle.krb_accept_rules.specs.Accepting.{IsAccepted}
use Rattle.krb_accept_rules.specs.Names.{IsAmong}
use Rattle.krb_accept_rules.specs.Presenting.{IsPresented}
use Rattle.krb_accept_rules.specs.Remembering.{IsHistory, Step}
use Rattle.krb_accept_rules.specs.Times.{IsWithin}
use Rattle.krb_accept_rules.specs.declared.accepted.Accepted.{Accepted}
use Rattle.krb_accept_rules.specs.declared.cache.Entry.{Entry}
use Rattle.krb_accept_rules.specs.declared.key.ServiceKey.{ServiceKey}
use Rattle.krb_accept_rules.specs.declared.opening.Opening.{Ghosts as OpeningOf}
use Rattle.krb_accept_rules.specs.declared.terms.Arrival.{Arrival}
use Rattle.krb_accept_rules.specs.declared.terms.Terms.{Terms}
use Rattle.krb_accept_rules.proofs.Once.{remembered, within}

abbrev pub entry_from : List ℕ → List (List ℕ) → List ℕ → List (List ℕ) → ℤ → ℕ → Entry
entry_from server_realm server client_realm client seconds microseconds = record {
  server_realm = server_realm;
  server = server;
  client_realm = client_realm;
  client = client;
  seconds = seconds;
  microseconds = microseconds;
}

same_parts : (sr sq : List ℕ) (s t : List (List ℕ)) (cr cq : List ℕ) (c d : List (List ℕ)) (x y : ℤ) (m n : ℕ) → sr ≡ sq → s ≡ t → cr ≡ cq → c ≡ d → x ≡ y → m ≡ n
    → entry_from sr s cr c x m ≡ entry_from sq t cq d y n
same_parts sr sq s t cr cq c d x y m n e f g h i j =
    ap (λ z. entry_from z s cr c x m) e ∙ ap (λ z. entry_from sq z cr c x m) f ∙ ap (λ z. entry_from sq t z c x m) g
    ∙ ap (λ z. entry_from sq t cq z x m) h ∙ ap (λ z. entry_from sq t cq d z m) i ∙ ap (λ z. entry_from sq t cq d y z) j

one_number : (m n : ℕ) → pos m ≡ pos n → m ≡ n
one_number m n e = cc

module _ {O : Type 0} (o : OpeningOf O) (keys session_keys : List ServiceKey) (terms : Terms) (arrival : Arrival) (octets : List ℕ) (k : ServiceKey) (e : Entry) (a : Accepted) where
  realm_of : (p : IsPresented o keys session_keys terms arrival octets k e a) → a.ticket.realm ≡ p.authenticator.realm
  realm_of p = ap (λ (x : Accepted). x.ticket.realm) p.tells ∙ p.keeps.1.1.1.1.0.0

  client_of : (p : IsPresented o keys session_keys terms arrival octets k e a) → a.ticket.client.name_string ≡ p.authenticator.client.name_string
  client_of p = ap (λ (x : Accepted). x.ticket.client.name_string) p.tells ∙ p.keeps.1.1.1.1.0.1

  cusec_of : (p : IsPresented o keys session_keys terms arrival octets k e a) → a.cusec ≡ pos p.microseconds
  cusec_of p = ap (λ (x : Accepted). x.cusec) p.tells ∙ p.is_microseconds

pub same_form : {O : Type 0} (o : OpeningOf O) (keys session_keys others more : List ServiceKey) (terms other : Terms) (first second : Arrival) (octets again : List ℕ) (k l : ServiceKey) (e d : Entry) (a b : Accepted)
    → IsPresented o keys session_keys terms first octets k e a → IsPresented o others more other second again l d b → HasSameEntry a b → e ≡ d
same_form o keys session_keys others more terms other first second octets again k l e d a b p q h =
    let parts = same_parts p.request.realm q.request.realm p.request.server.name_string q.request.server.name_string
    p.authenticator.realm q.authenticator.realm p.authenticator.client.name_string q.authenticator.client.name_string
    (unix_seconds p.authenticator.ctime) (unix_seconds q.authenticator.ctime) p.microseconds q.microseconds
    (sym (ap (λ (x : Accepted). x.server_realm) p.tells) ∙ h.server_realm ∙ ap (λ (x : Accepted). x.server_realm) q.tells)
    (sym (ap (λ (x : Accepted). x.server.name_string) p.tells) ∙ h.server ∙ ap (λ (x : Accepted). x.server.name_string) q.tells)
    (sym (realm_of o keys session_keys terms first octets k e a p) ∙ h.client_realm ∙ realm_of o others more other second again l d b q)
    (sym (client_of o keys session_keys terms first octets k e a p) ∙ h.client ∙ client_of o others more other second again l d b q)
    (sym (ap (λ (x : Accepted). unix_seconds x.ctime) p.tells) ∙ h.seconds ∙ ap (λ (x : Accepted). unix_seconds x.ctime) q.tells)
    (one_number p.microseconds q.microseconds (sym (cusec_of o keys session_keys terms first octets k e a p) ∙ h.microseconds ∙ cusec_of o others more other second again l d b q)) in
    p.is_entry ∙ parts ∙ sym q.is_entry

pub once_in_any_form : {O : Type 0} (o : OpeningOf O) (keys session_keys others more : List ServiceKey) (terms other : Terms) (first second : Arrival) (octets again : List ℕ) (steps : List Step) (seen after later last : List Entry) (a b : Accepted)
    → IsAccepted o keys session_keys terms first octets seen after a → IsHistory terms.skew second.clock steps after later → other.skew ≡ terms.skew → HasSameEntry a b
    → IsAccepted o others more other second again later last b → ⊥
once_in_any_form o keys session_keys others more terms other first second octets again steps seen after later last a b p h skews s q =
    let same = same_form o keys session_keys others more terms other first second octets again p.key q.key p.entry q.entry a b p.presented q.presented s in
    let near = subst (λ n. IsWithin second.clock n q.entry.seconds) skews (within o others more other second again q.key q.entry b q.presented) in
    let fits = subst (λ (x : Entry). IsWithin second.clock terms.skew x.seconds) (sym same) near in
    q.admitted.is_new (subst (IsAmong later) same (remembered o keys session_keys terms first octets steps second.clock seen after later a p h fits.1))
