-- A token is not let in twice, and the PAC that is handed out is the one that was verified.
use Rattle.std.proofs.Common.{◌≡◌, inl, inr, ℕ, ℤ, ◌<ℤ◌, List, [], ◌∷◌, ◌++◌, Option, None, Some, Result, Ok, Err, sym, subst, ap, ◌∙◌}
use Rattle.std.specs.Option.{option_map}
use Rattle.krb_accept_rules.specs.Accepted.{HasSameEntry}
use Rattle.krb_accept_rules.specs.Accepting.{IsAccepted}
use Rattle.krb_accept_rules.specs.Remembering.{IsHistory, Step, records}
use Rattle.krb_accept_rules.specs.Remembering as step
use Rattle.krb_accept_rules.specs.declared.accepted.Accepted.{Accepted}
use Rattle.krb_accept_rules.specs.declared.cache.Entry.{Entry}
use Rattle.krb_accept_rules.specs.declared.key.ServiceKey.{ServiceKey}
use Rattle.krb_accept_rules.specs.declared.opening.Opening.{Ghosts as OpeningOf}
use Rattle.krb_accept_rules.specs.declared.terms.Arrival.{Arrival}
use Rattle.krb_accept_rules.specs.declared.terms.Terms.{Terms}
use Rattle.krb_accept_rules.proofs.Forms.{once_in_any_form}
use Rattle.krb_accept_rules.proofs.Once.{once, over_restarts}
use Rattle.krb_accept_rules.proofs.Runs.{HasHistory}
use Rattle.krb_der_core.specs.declared.der.DerEncode.{Ghosts as EncodingOf}
use Rattle.krb_der_core.specs.TlvLaws.{tlv_same}
use Rattle.krb_enc_parts.specs.declared.data_types.credentials.EncKrbCredPartInner.{EncKrbCredPartInner}
use Rattle.krb_messages.specs.declared.messages.credentials.KrbCredInner.{KrbCredInner}
use Rattle.krb_types.specs.Times.{unix_seconds}
use Rattle.krb_types.specs.declared.data_types.authorization_data.AuthorizationDataInner.{AuthorizationDataInner}
use Rattle.byteorder.specs.Endian.{little_number}
use Rattle.krb_der_core.specs.GeneralizedTime.{Time}
use Rattle.krb_pac_contents.specs.Client.{client_name}
use Rattle.krb_accept_rules.specs.Firsts.{EachIs}
use Rattle.krb_accept_rules.specs.declared.fields.TicketFields.{TicketFields}
use Rattle.krb_accept.specs.Frame.{front_of, in_frame}
use Rattle.krb_accept.specs.Pac.{HasVerified, IsTimed, KeepsPac, TakesPac, joined, wide}
use Rattle.krb_accept.specs.PacPlaces.{IsFree, IsWithoutPac, NoPacOf, some_of}
use Rattle.krb_accept.specs.declared.settings.PacCheck.{PacCheck}
use Rattle.krb_accept.specs.declared.settings.PacCheck.TheVariants as checks
use Rattle.krb_accept.proofs.Pacs.{kept_free}
use Rattle.krb_accept.specs.Tokens.{IsRequestIn, IsTokenAccepted}
use Rattle.krb_accept.specs.TokenRuns.{IsTokenAnswered, IsTokenRun, TokenEvent, comes, forgets}
use Rattle.krb_accept.specs.declared.frame.InnerToken.TheVariants as inner
use Rattle.krb_accept.specs.declared.settings.Settings.{Settings}
use Rattle.krb_accept.specs.declared.token.Context.{Context}
use Rattle.krb_accept.specs.declared.token_refusal.TokenRefusal.{TokenRefusal}

-- ---- the request in a token

behind_same : (front a b : List ℕ) → front ++ a ≡ front ++ b → a ≡ b
behind_same [] a b e = e
behind_same (x ∷ front) a b e = behind_same front a b (tail x (front ++ a) (front ++ b) e)
  where
    tail : (x : ℕ) (xs ys : List ℕ) → x ∷ xs ≡ x ∷ ys → xs ≡ ys
    tail x xs ys e = cc

one_frame : (a b : List ℕ) → in_frame inner.ApReq a ≡ in_frame inner.ApReq b → a ≡ b
one_frame a b e = behind_same (front_of inner.ApReq) a b (tlv_same 96 96 (front_of inner.ApReq ++ a) (front_of inner.ApReq ++ b) e)

-- there is one in it, under whatever settings
one_request : (s z : Settings) (token a b : List ℕ) → IsRequestIn s token a → IsRequestIn z token b → a ≡ b
one_request s z token a b (inl p) (inl q) = one_frame a b (sym p ∙ q)
one_request s z token a b (inl p) (inr q) = absurd (q.0 a p)
one_request s z token a b (inr p) (inl q) = absurd (p.0 b q)
one_request s z token a b (inr p) (inr q) = p.2 ∙ sym q.2

-- ---- what is accepted with a token is accepted with its request

module _ (cred : EncodingOf KrbCredInner) (part : EncodingOf EncKrbCredPartInner) (elements : EncodingOf (List AuthorizationDataInner)) {O : Type 0} (o : OpeningOf O)
    (keys session_keys : List ServiceKey) where
  accepted_by : (terms : Terms) (arrival : Arrival) (s : Settings) (token : List ℕ) (seen after : List Entry) (c : Context)
      → (p : IsTokenAccepted cred part elements o keys session_keys terms arrival s token seen after c)
      → IsAccepted o keys session_keys terms arrival p.is_presented.octets seen after p.is_presented.found
  accepted_by terms arrival s token seen after c p = record {
    key = p.presented.presented.key.now;
    entry = p.presented.presented.entry;
    presented = p.is_presented.presented;
    admitted = p.admitted;
  }

  -- and with the request of another token with the same octets
  accepted_of : (terms : Terms) (arrival : Arrival) (s : Settings) (token octets : List ℕ) (seen after : List Entry) (c : Context)
      → (p : IsTokenAccepted cred part elements o keys session_keys terms arrival s token seen after c) → p.is_presented.octets ≡ octets
      → IsAccepted o keys session_keys terms arrival octets seen after p.is_presented.found
  accepted_of terms arrival s token octets seen after c p e =
      subst (λ (l : List ℕ). IsAccepted o keys session_keys terms arrival l seen after p.is_presented.found) e (accepted_by terms arrival s token seen after c p)

  pub token_once : (terms : Terms) (first second : Arrival) (s z : Settings) (token : List ℕ) (steps : List Step) (seen after later last : List Entry) (c d : Context)
      → IsTokenAccepted cred part elements o keys session_keys terms first s token seen after c → IsHistory terms.skew second.clock steps after later
      → IsTokenAccepted cred part elements o keys session_keys terms second z token later last d → ⊥
  token_once terms first second s z token steps seen after later last c d p h q =
      let same = one_request z s token q.is_presented.octets p.is_presented.octets q.is_presented.is_request p.is_presented.is_request in
      once o keys session_keys terms first second p.is_presented.octets steps seen after later last p.is_presented.found q.is_presented.found
      (accepted_by terms first s token seen after c p) h (accepted_of terms second z token p.is_presented.octets later last d q same)

  pub token_over_restarts : (terms other : Terms) (first second : Arrival) (s z : Settings) (since : ℤ) (token : List ℕ) (seen after later last : List Entry) (c d : Context)
      → IsTokenAccepted cred part elements o keys session_keys terms first s token seen after c → other.skew ≡ terms.skew → other.whole_since ≡ Some since
      → first.clock <ℤ since → IsTokenAccepted cred part elements o keys session_keys other second z token later last d → ⊥
  token_over_restarts terms other first second s z since token seen after later last c d p skews is before q =
      let same = one_request z s token q.is_presented.octets p.is_presented.octets q.is_presented.is_request p.is_presented.is_request in
      over_restarts o keys session_keys terms other first second since p.is_presented.octets seen after later last p.is_presented.found q.is_presented.found
      (accepted_by terms first s token seen after c p) skews is before (accepted_of other second z token p.is_presented.octets later last d q same)

  -- ---- over a run

  after_answer : (terms : Terms) (arrival : Arrival) (s : Settings) (token : List ℕ) (later : ℤ) (seen next after : List Entry) (answer : Result Context TokenRefusal)
      → IsTokenAnswered cred part elements o keys session_keys terms arrival s token seen next answer → HasHistory terms.skew later next after
      → HasHistory terms.skew later seen after
  after_answer terms arrival s token later seen next after (Ok c) p h =
      record { steps = records p.presented.presented.entry ∷ h.steps; history = (next, tt, p.admitted.remembered, h.history) }
  after_answer terms arrival s token later seen next after (Err e) p h =
      record { steps = h.steps; history = subst (λ (l : List Entry). IsHistory terms.skew later h.steps l after) p.1 h.history }

  history_of : (terms : Terms) (later : ℤ) (events : List TokenEvent) (seen after : List Entry)
      → IsTokenRun cred part elements o keys session_keys terms later events seen after → HasHistory terms.skew later seen after
  history_of terms later [] seen after h = record { steps = []; history = h }
  history_of terms later (comes arrival s token answer ∷ events) seen after h =
      after_answer terms arrival s token later seen h.0 after answer h.1 (history_of terms later events h.0 after h.2)
  history_of terms later (forgets clock ∷ events) seen after h =
      let rest = history_of terms later events h.0 after h.3 in
      record { steps = step.forgets clock ∷ rest.steps; history = (h.0, h.1, h.2, rest.history) }

  pub token_never_again : (terms : Terms) (first second : Arrival) (s z : Settings) (token : List ℕ) (events : List TokenEvent) (seen after later last : List Entry) (c d : Context)
      → IsTokenAccepted cred part elements o keys session_keys terms first s token seen after c
      → IsTokenRun cred part elements o keys session_keys terms second.clock events after later
      → IsTokenAccepted cred part elements o keys session_keys terms second z token later last d → ⊥
  token_never_again terms first second s z token events seen after later last c d p run q =
      let h = history_of terms second.clock events after later run in
      token_once terms first second s z token h.steps seen after later last c d p h.history q

-- ---- in any form

module _ (cred : EncodingOf KrbCredInner) (part : EncodingOf EncKrbCredPartInner) (elements : EncodingOf (List AuthorizationDataInner)) {O : Type 0} (o : OpeningOf O)
    (keys session_keys : List ServiceKey) (terms : Terms) (arrival : Arrival) (s : Settings) (token : List ℕ) (seen after : List Entry) (c : Context) where
  -- what is told of a client has the server, the names and the time of what was found
  pub same_as_found : (p : IsTokenAccepted cred part elements o keys session_keys terms arrival s token seen after c) → HasSameEntry p.is_presented.found c.accepted
  same_as_found p =
      let e = p.told.accepted ∙ p.is_presented.handed_out.told_is in
      record {
        server_realm = sym (ap (λ (a : Accepted). a.server_realm) e);
        server = sym (ap (λ (a : Accepted). a.server.name_string) e);
        client_realm = sym (ap (λ (a : Accepted). a.ticket.realm) e);
        client = sym (ap (λ (a : Accepted). a.ticket.client.name_string) e);
        seconds = sym (ap (λ (a : Accepted). unix_seconds a.ctime) e);
        microseconds = sym (ap (λ (a : Accepted). a.cusec) e);
      }

both_entries : (a b d e : Accepted) → HasSameEntry a b → HasSameEntry b d → HasSameEntry e d → HasSameEntry a e
both_entries a b d e p q r = record {
  server_realm = p.server_realm ∙ q.server_realm ∙ sym r.server_realm;
  server = p.server ∙ q.server ∙ sym r.server;
  client_realm = p.client_realm ∙ q.client_realm ∙ sym r.client_realm;
  client = p.client ∙ q.client ∙ sym r.client;
  seconds = p.seconds ∙ q.seconds ∙ sym r.seconds;
  microseconds = p.microseconds ∙ q.microseconds ∙ sym r.microseconds;
}

pub token_once_in_any_form : (cred : EncodingOf KrbCredInner) (part : EncodingOf EncKrbCredPartInner) (elements : EncodingOf (List AuthorizationDataInner)) {O : Type 0} (o : OpeningOf O)
    (keys session_keys others more : List ServiceKey) (terms other : Terms) (first second : Arrival) (s z : Settings) (token again : List ℕ) (steps : List Step)
    (seen after later last : List Entry) (c d : Context)
    → IsTokenAccepted cred part elements o keys session_keys terms first s token seen after c → IsHistory terms.skew second.clock steps after later
    → other.skew ≡ terms.skew → HasSameEntry c.accepted d.accepted
    → IsTokenAccepted cred part elements o others more other second z again later last d → ⊥
token_once_in_any_form cred part elements o keys session_keys others more terms other first second s z token again steps seen after later last c d p h skews same q =
    once_in_any_form o keys session_keys others more terms other first second p.is_presented.octets q.is_presented.octets steps seen after later last
    p.is_presented.found q.is_presented.found (accepted_by cred part elements o keys session_keys terms first s token seen after c p) h skews
    (both_entries p.is_presented.found c.accepted d.accepted q.is_presented.found (same_as_found cred part elements o keys session_keys terms first s token seen after c p) same
    (same_as_found cred part elements o others more other second z again later last d q))
    (accepted_by cred part elements o others more other second z again later last d q)

-- ---- the PAC

module _ (t : EncodingOf (List AuthorizationDataInner)) where
  verified_as : (key : List ℕ) (a : Accepted) (o octets : List ℕ) (pac : Option (List ℕ)) → pac ≡ Some o → pac ≡ Some octets → HasVerified t key a o → HasVerified t key a octets
  verified_as key a o octets pac e f h = subst (HasVerified t key a) (same o octets (sym e ∙ f)) h
    where
      same : (x y : List ℕ) → Some x ≡ Some y → x ≡ y
      same x y q = cc

  none_as : (pac : Option (List ℕ)) (octets : List ℕ) → pac ≡ None → pac ≡ Some octets → ⊥
  none_as pac octets e f = cc

  -- what is handed out is verified
  has_verified : (check : PacCheck) (key : List ℕ) (a : Accepted) (pac : Option (List ℕ)) (octets : List ℕ) → KeepsPac t check key a pac → pac ≡ Some octets
      → HasVerified t key a octets
  has_verified checks.Ignored key a pac octets h e = absurd (none_as pac octets h e)
  has_verified checks.Checked key a pac octets h e =
      elim h.1 [ inl n ↦ absurd (none_as pac octets n.0 e) | inr v ↦ verified_as key a v.0 octets pac v.1 e v.2 ]
  has_verified checks.Required key a pac octets h e = verified_as key a h.1.0 octets pac h.1.1 e h.1.2

  some_free : (kept : List AuthorizationDataInner) → EachIs (IsFree t 16) kept → NoPacOf t (some_of kept)
  some_free [] h = tt
  some_free (x ∷ xs) h = h

  -- no PAC stands in what is handed out
  without : (field left : Option (List AuthorizationDataInner)) → IsWithoutPac t field left → NoPacOf t left
  without None left h = subst (NoPacOf t) (sym h) tt
  without (Some elements) left h = subst (NoPacOf t) (sym h.2) (some_free h.0 (kept_free (IsFree t 16) elements h.0 h.1))

-- the same PAC of a client of the same name and time
takes_as : (key octets : List ℕ) (v w : TicketFields) → v.auth_time ≡ w.auth_time → v.client.name_string ≡ w.client.name_string → TakesPac key v octets → TakesPac key w octets
takes_as key octets v w e f h = record {
  signatures = h.signatures;
  info = h.info;
  has_signatures = h.has_signatures;
  has_info = h.has_info;
  holds = h.holds;
  names_client = (
    subst (λ (x : Time). IsTimed (little_number 8 h.info) (unix_seconds x)) e h.names_client.0,
    subst (λ (x : List (List ℕ)). client_name h.info ≡ wide (joined x)) f h.names_client.1,
  );
}

module _ (cred : EncodingOf KrbCredInner) (part : EncodingOf EncKrbCredPartInner) (elements : EncodingOf (List AuthorizationDataInner)) {O : Type 0} (o : OpeningOf O)
    (keys session_keys : List ServiceKey) (terms : Terms) (arrival : Arrival) (s : Settings) (token : List ℕ) (seen after : List Entry) (c : Context) where
  pub pac_verified : (octets : List ℕ) → (p : IsTokenAccepted cred part elements o keys session_keys terms arrival s token seen after c)
      → option_map (λ v. v.items) c.pac ≡ Some octets → TakesPac p.presented.presented.key.now.octets c.accepted.ticket octets
  pac_verified octets p e =
      let told = p.told.accepted ∙ p.is_presented.handed_out.told_is in
      let same = sym (ap (λ x. option_map (λ v. v.items) x) p.told.pac) ∙ e in
      let h = has_verified elements s.pac p.presented.presented.key.now.octets p.is_presented.found _ octets p.is_presented.pac same in
      takes_as p.presented.presented.key.now.octets octets p.is_presented.found.ticket c.accepted.ticket
      (sym (ap (λ (a : Accepted). a.ticket.auth_time) told)) (sym (ap (λ (a : Accepted). a.ticket.client.name_string) told)) h.takes

  pub no_other_pac : IsTokenAccepted cred part elements o keys session_keys terms arrival s token seen after c
      → NoPacOf elements c.accepted.ticket.authorization_data × NoPacOf elements c.accepted.authorization_data
  no_other_pac p =
      let told = p.told.accepted ∙ p.is_presented.handed_out.told_is in
      let h = p.is_presented.handed_out in (
        subst (λ (a : Accepted). NoPacOf elements a.ticket.authorization_data) (sym told)
            (without elements p.is_presented.found.ticket.authorization_data h.of_ticket h.ticket_without),
        subst (λ (a : Accepted). NoPacOf elements a.authorization_data) (sym told)
            (without elements p.is_presented.found.authorization_data h.of_authenticator h.authenticator_without),
      )

  pub ignored_pac : s.pac ≡ checks.Ignored → IsTokenAccepted cred part elements o keys session_keys terms arrival s token seen after c
      → option_map (λ v. v.items) c.pac ≡ None
  ignored_pac is p =
      ap (λ x. option_map (λ v. v.items) x) p.told.pac
      ∙ subst (λ (check : PacCheck). KeepsPac elements check p.presented.presented.key.now.octets p.is_presented.found (option_map (λ v. v.items) p.presented.pac)) is
      p.is_presented.pac
