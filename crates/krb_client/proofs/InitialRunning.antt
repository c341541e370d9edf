-- Whole runs of an exchange for a first ticket.
use Rattle.std.proofs.Common.{◌≡◌, ℕ, ℤ, ◌+◌, ◌≤◌, List, Option, Some, None, Result, Ok, Err, sym, ap, subst, ◌∙◌, arith}
use Rattle.krb_client.specs.declared.keys.secret.Secret.{Secret}
use Rattle.krb_client.specs.declared.replies.granted.Granted.{Granted}
use Rattle.krb_client.specs.declared.replies.reported.Reported.{Reported}
use Rattle.krb_client_rules.specs.declared.asked.Asked.{Asked}
use Rattle.krb_client_rules.specs.declared.key.Key.{Key}
use Rattle.krb_client.specs.Initial.{Asks, IsBegun, IsStep, asked_with, key_after, offset_after, taken}
use Rattle.krb_client.specs.InitialRuns.{InitialCall, InitialRuns, InitialStepsBy, IsLastRequest, IsTicketFor, StepsTo, requests_in, requests_of, sent_after, sent_by_call}
use Rattle.krb_client.specs.Reports.{CallsFor}
use Rattle.krb_client.specs.Requests.{IsInitialRequest}
use Rattle.krb_client.specs.Runs.{Sent, last_sent, sent_by}
use Rattle.krb_client.specs.Types.{InitialTypes}
use Rattle.krb_client.specs.declared.error.ClientError.{ClientError}
use Rattle.krb_client.specs.declared.initial.InitialExchange.{InitialExchange}
use Rattle.krb_client.specs.declared.initial.InitialStep.{InitialStep}
use Rattle.krb_client.specs.declared.initial.InitialStep.TheVariants as steps
use Rattle.krb_client.specs.declared.moment.Moment.{Moment}
use Rattle.krb_client.specs.declared.reported.Change.{Change}
use Rattle.krb_client.specs.declared.reported.Change.TheVariants as changes
use Rattle.krb_client.specs.declared.terms.Terms.{Terms}
use Rattle.krb_client.proofs.Running.{clash, run_count, run_keeps, run_last, unset, unset_most}

-- how many more requests an exchange makes at most: one for the key, and one for the KDC's time
abbrev pub left : InitialExchange → ℕ
left e = unset e.key + unset e.offset

module _ (t : InitialTypes) (terms : Terms) where
  change_left : (e : InitialExchange) (s : Secret) (m : Moment) (r : Reported) (change : Change) (nonce : ℕ) → CallsFor t terms e s m r change
      → 1 + left (taken e change nonce) ≡ left e
  change_left e s m r (changes.Key key) nonce calls = let one : unset e.key ≡ 1 = ap unset calls.0.1 in omega (arith, one)
  change_left e s m r (changes.Offset offset) nonce calls = let one : unset e.offset ≡ 1 = ap unset calls.0.1 in omega (arith, one)

  pub step_left : (e : InitialExchange) (s : Secret) (m : Moment) (octets : List ℕ) (outcome : Result InitialStep ClientError) (after : InitialExchange)
      → StepsTo t terms e s m octets outcome after → requests_in outcome + left after ≡ left e
  step_left e s m octets (Ok (steps.Send request)) after (change, answer, is) =
      let one : 1 + left (taken e change m.nonce) ≡ left e = change_left e s m answer.1.report change m.nonce answer.1.calls in
      let same : left after ≡ left (taken e change m.nonce) = ap left is in
      omega (arith, one, same)
  step_left e s m octets (Ok (steps.Granted g)) after (answer, is) = let same : left after ≡ left e = ap left is in omega (arith, same)
  step_left e s m octets (Ok steps.Wait) after (answer, is) = let same : left after ≡ left e = ap left is in omega (arith, same)
  step_left e s m octets (Err error) after (refused, is) = let same : left after ≡ left e = ap left is in omega (arith, same)

  pub at_most_three : (e : InitialExchange) (calls : List InitialCall) (after : InitialExchange) → InitialRuns t terms e calls after
      → 1 + sent_by requests_of calls ≤ 3
  at_most_three e calls after run =
      let all : sent_by requests_of calls + left after ≡ left e =
      run_count (InitialStepsBy t terms) requests_of left
      (λ x call next h. step_left x call.secret call.moment call.octets call.outcome next h) e calls after run in
      let key : unset e.key ≤ 1 = unset_most e.key in
      let offset : unset e.offset ≤ 1 = unset_most e.offset in
      omega (arith, all, key, offset)

  -- ---- what was taken stays

  step_offset : (offset : ℤ) (e : InitialExchange) (s : Secret) (m : Moment) (octets : List ℕ) (outcome : Result InitialStep ClientError)
      (after : InitialExchange) → StepsTo t terms e s m octets outcome after → e.offset ≡ Some offset → after.offset ≡ Some offset
  step_offset offset e s m octets (Ok (steps.Send request)) after (changes.Key key, answer, is) has = ap (λ (x : InitialExchange). x.offset) is ∙ has
  step_offset offset e s m octets (Ok (steps.Send request)) after (changes.Offset other, answer, is) has =
      absurd (clash e.offset offset answer.1.calls.0.1 has)
  step_offset offset e s m octets (Ok (steps.Granted g)) after (answer, is) has = ap (λ (x : InitialExchange). x.offset) is ∙ has
  step_offset offset e s m octets (Ok steps.Wait) after (answer, is) has = ap (λ (x : InitialExchange). x.offset) is ∙ has
  step_offset offset e s m octets (Err error) after (refused, is) has = ap (λ (x : InitialExchange). x.offset) is ∙ has

  pub run_offset : (e : InitialExchange) (calls : List InitialCall) (after : InitialExchange) (offset : ℤ)
      → InitialRuns t terms e calls after → e.offset ≡ Some offset → after.offset ≡ Some offset
  run_offset e calls after offset run has =
      run_keeps (InitialStepsBy t terms) (λ x. x.offset ≡ Some offset)
      (λ x call next h. step_offset offset x call.secret call.moment call.octets call.outcome next h) e calls after run has

  step_key : (key : Key) (e : InitialExchange) (s : Secret) (m : Moment) (octets : List ℕ) (outcome : Result InitialStep ClientError) (after : InitialExchange)
      → StepsTo t terms e s m octets outcome after → e.key ≡ Some key → after.key ≡ Some key
  step_key key e s m octets (Ok (steps.Send request)) after (changes.Offset offset, answer, is) has = ap (λ (x : InitialExchange). x.key) is ∙ has
  step_key key e s m octets (Ok (steps.Send request)) after (changes.Key other, answer, is) has = absurd (clash e.key key answer.1.calls.0.1 has)
  step_key key e s m octets (Ok (steps.Granted g)) after (answer, is) has = ap (λ (x : InitialExchange). x.key) is ∙ has
  step_key key e s m octets (Ok steps.Wait) after (answer, is) has = ap (λ (x : InitialExchange). x.key) is ∙ has
  step_key key e s m octets (Err error) after (refused, is) has = ap (λ (x : InitialExchange). x.key) is ∙ has

  pub run_key : (e : InitialExchange) (calls : List InitialCall) (after : InitialExchange) (key : Key)
      → InitialRuns t terms e calls after → e.key ≡ Some key → after.key ≡ Some key
  run_key e calls after key run has =
      run_keeps (InitialStepsBy t terms) (λ x. x.key ≡ Some key)
      (λ x call next h. step_key key x call.secret call.moment call.octets call.outcome next h) e calls after run has

  -- ---- the last request

  -- the nonce of what is asked is not of the request: that is the moment's
  same_request : (a : Asked) (nonce : ℕ) (key : Option Key) (offset : Option ℤ) (m : Moment) (request : List ℕ)
      → IsInitialRequest t terms (asked_with a nonce) key offset m request → IsInitialRequest t terms a key offset m request
  same_request a nonce key offset m request r = record { padata = r.padata; authenticated = r.authenticated; is_request = r.is_request }

  sent_last : (a : Asked) (e : InitialExchange) (sent : Sent) (s : Secret) (m : Moment) (octets : List ℕ) (change : Change) (request : List ℕ)
      → IsLastRequest t terms a e sent → Asks t terms e s m octets change request
      → IsLastRequest t terms a (taken e change m.nonce) (record { moment = m; request = request })
  sent_last a e sent s m octets change request last asks =
      record {
        asked = ap (λ (x : Asked). asked_with x m.nonce) last.asked;
        is_request = same_request a sent.moment.nonce (key_after e.key change) (offset_after e.offset change) m request
            (subst (λ (x : Asked). IsInitialRequest t terms x (key_after e.key change) (offset_after e.offset change) m request) last.asked asks.is_request);
      }

  step_last : (a : Asked) (e : InitialExchange) (sent : Sent) (s : Secret) (m : Moment) (octets : List ℕ) (outcome : Result InitialStep ClientError)
      (after : InitialExchange) → IsLastRequest t terms a e sent → StepsTo t terms e s m octets outcome after
      → IsLastRequest t terms a after (sent_after sent m outcome)
  step_last a e sent s m octets (Ok (steps.Send request)) after last (change, answer, is) =
      subst (λ (x : InitialExchange). IsLastRequest t terms a x (record { moment = m; request = request.items })) (sym is)
      (sent_last a e sent s m octets change request.items last answer.1)
  step_last a e sent s m octets (Ok (steps.Granted g)) after last (answer, is) = subst (λ (x : InitialExchange). IsLastRequest t terms a x sent) (sym is) last
  step_last a e sent s m octets (Ok steps.Wait) after last (answer, is) = subst (λ (x : InitialExchange). IsLastRequest t terms a x sent) (sym is) last
  step_last a e sent s m octets (Err error) after last (refused, is) = subst (λ (x : InitialExchange). IsLastRequest t terms a x sent) (sym is) last

  begun_last : (a : Asked) (m : Moment) (e : InitialExchange) (request : List ℕ) → IsBegun t terms a m e request
      → IsLastRequest t terms a e (record { moment = m; request = request })
  begun_last a m e request begun = record {
    asked = begun.asked;
    is_request = subst (λ (k : Option Key). IsInitialRequest t terms a k e.offset m request) (sym begun.no_key)
        (subst (λ (o : Option ℤ). IsInitialRequest t terms a None o m request) (sym begun.no_offset) begun.is_request);
  }

  pub begun_run_last : (a : Asked) (m : Moment) (e : InitialExchange) (request : List ℕ) (calls : List InitialCall) (after : InitialExchange)
      → IsBegun t terms a m e request → InitialRuns t terms e calls after
      → IsLastRequest t terms a after (last_sent sent_by_call (record { moment = m; request = request }) calls)
  begun_run_last a m e request calls after begun run =
      run_last (InitialStepsBy t terms) sent_by_call (IsLastRequest t terms a)
      (λ x sent call next last h. step_last a x sent call.secret call.moment call.octets call.outcome next last h)
      e (record { moment = m; request = request }) calls after (begun_last a m e request begun) run

  -- ---- a ticket

  granted_for : (a : Asked) (e : InitialExchange) (sent : Sent) (s : Secret) (m : Moment) (octets : List ℕ) (g : Granted) (after : InitialExchange)
      → IsLastRequest t terms a e sent → IsStep t terms e s m octets (steps.Granted g) after → IsTicketFor t terms a e sent s m octets g
  granted_for a e sent s m octets g after last step = record {
    last = last;
    key = step.0.1.0;
    is_key = step.0.1.1;
    is_granted = rw last.asked at step.0.1.2;
  }

  pub ticket_for : (a : Asked) (m : Moment) (begun : InitialExchange) (request : List ℕ) (calls : List InitialCall) (before : InitialExchange) (s : Secret)
      (now : Moment) (octets : List ℕ) (g : Granted) (after : InitialExchange) → IsBegun t terms a m begun request
      → InitialRuns t terms begun calls before → IsStep t terms before s now octets (steps.Granted g) after
      → IsTicketFor t terms a before (last_sent sent_by_call (record { moment = m; request = request }) calls) s now octets g
  ticket_for a m begun request calls before s now octets g after is run step =
      granted_for a before (last_sent sent_by_call (record { moment = m; request = request }) calls) s now octets g after
      (begun_run_last a m begun request calls before is run) step
