-- Whole runs of an exchange for a further ticket.
use Rattle.std.proofs.Common.{◌≡◌, ℕ, ℤ, ◌+◌, ◌≤◌, List, Option, Some, Result, Ok, Err, sym, ap, subst, ◌∙◌, arith}
use Rattle.krb_client.specs.declared.replies.granted.Granted.{Granted}
use Rattle.krb_client_rules.specs.declared.asked.Asked.{Asked}
use Rattle.krb_client_rules.specs.declared.key.Key.{Key}
use Rattle.krb_client.specs.Initial.{asked_with}
use Rattle.krb_client.specs.Requests.{IsSenderOf, IsServiceRequest}
use Rattle.krb_client.specs.Runs.{Sent, last_sent, sent_by}
use Rattle.krb_client.specs.Service.{AsksByTicket, IsServiceBegun, IsServiceStep, retimed}
use Rattle.krb_client.specs.ServiceRuns.{IsLastServiceRequest, IsServiceTicketFor, ServiceCall, ServiceRuns, ServiceStepsBy, ServiceStepsTo, requests_in, requests_of, sent_after, sent_by_call}
use Rattle.krb_client.specs.Types.{ServiceTypes}
use Rattle.krb_client.specs.declared.error.ClientError.{ClientError}
use Rattle.krb_client.specs.declared.moment.Moment.{Moment}
use Rattle.krb_client.specs.declared.service.ServiceExchange.{ServiceExchange}
use Rattle.krb_client.specs.declared.service.ServiceStep.{ServiceStep}
use Rattle.krb_client.specs.declared.service.ServiceStep.TheVariants as steps
use Rattle.krb_client.specs.declared.terms.ByTicket.{ByTicket}
use Rattle.krb_client.specs.declared.terms.Terms.{Terms}
use Rattle.krb_client.proofs.Running.{clash, run_count, run_keeps, run_last, unset, unset_most}

-- how many more requests an exchange makes at most: one for the KDC's time
abbrev pub left : ServiceExchange → ℕ
left e = unset e.offset

module _ (t : ServiceTypes) (terms : Terms) (by : ByTicket) where
  pub step_left : (e : ServiceExchange) (m : Moment) (octets : List ℕ) (outcome : Result ServiceStep ClientError) (after : ServiceExchange)
      → ServiceStepsTo t terms by e m octets outcome after → requests_in outcome + left after ≡ left e
  step_left e m octets (Ok (steps.Send request)) after (offset, answer, is) =
      let one : unset e.offset ≡ 1 = ap unset answer.1.needs_time.1 in
      let none : unset after.offset ≡ 0 = ap (λ (x : ServiceExchange). unset x.offset) is ∙ ap unset answer.1.is_offset in
      omega (arith, one, none)
  step_left e m octets (Ok (steps.Granted g)) after (answer, is) = let same : left after ≡ left e = ap left is in omega (arith, same)
  step_left e m octets (Ok steps.Wait) after (answer, is) = let same : left after ≡ left e = ap left is in omega (arith, same)
  step_left e m octets (Err error) after (refused, is) = let same : left after ≡ left e = ap left is in omega (arith, same)

  pub at_most_two : (e : ServiceExchange) (calls : List ServiceCall) (after : ServiceExchange) → ServiceRuns t terms by e calls after
      → 1 + sent_by requests_of calls ≤ 2
  at_most_two e calls after run =
      let all : sent_by requests_of calls + left after ≡ left e =
      run_count (ServiceStepsBy t terms by) requests_of left (λ x call next h. step_left x call.moment call.octets call.outcome next h) e calls after run in
      let offset : unset e.offset ≤ 1 = unset_most e.offset in
      omega (arith, all, offset)

  step_offset : (offset : ℤ) (e : ServiceExchange) (m : Moment) (octets : List ℕ) (outcome : Result ServiceStep ClientError) (after : ServiceExchange)
      → ServiceStepsTo t terms by e m octets outcome after → e.offset ≡ Some offset → after.offset ≡ Some offset
  step_offset offset e m octets (Ok (steps.Send request)) after (other, answer, is) has = absurd (clash e.offset offset answer.1.needs_time.1 has)
  step_offset offset e m octets (Ok (steps.Granted g)) after (answer, is) has = ap (λ (x : ServiceExchange). x.offset) is ∙ has
  step_offset offset e m octets (Ok steps.Wait) after (answer, is) has = ap (λ (x : ServiceExchange). x.offset) is ∙ has
  step_offset offset e m octets (Err error) after (refused, is) has = ap (λ (x : ServiceExchange). x.offset) is ∙ has

  pub run_offset : (e : ServiceExchange) (calls : List ServiceCall) (after : ServiceExchange) (offset : ℤ)
      → ServiceRuns t terms by e calls after → e.offset ≡ Some offset → after.offset ≡ Some offset
  run_offset e calls after offset run has =
      run_keeps (ServiceStepsBy t terms by) (λ x. x.offset ≡ Some offset)
      (λ x call next h. step_offset offset x call.moment call.octets call.outcome next h) e calls after run has

  -- ---- the last request

  -- the nonce of what is asked is not of the request: that is the moment's
  same_request : (a : Asked) (nonce : ℕ) (subkey : Key) (offset : Option ℤ) (m : Moment) (request : List ℕ)
      → IsServiceRequest t terms by (asked_with a nonce) subkey offset m request → IsServiceRequest t terms by a subkey offset m request
  same_request a nonce subkey offset m request r =
      let s = r.is_sender in
      let is : IsSenderOf a subkey offset m r.sender =
      record {
        crealm = s.crealm;
        cname = s.cname;
        seconds = s.seconds;
        microseconds = s.microseconds;
        lent = s.lent;
        subkey_is = s.subkey_is;
        lent_is = s.lent_is;
        no_number = s.no_number;
      } in
      record { sender = r.sender; is_sender = is; is_request = r.is_request }

  sent_last : (a : Asked) (subkey : Key) (e : ServiceExchange) (sent : Sent) (m : Moment) (octets : List ℕ) (offset : Option ℤ) (request : List ℕ)
      → IsLastServiceRequest t terms by a subkey e sent → AsksByTicket t terms by e m octets offset request
      → IsLastServiceRequest t terms by a subkey (retimed e offset m.nonce) (record { moment = m; request = request })
  sent_last a subkey e sent m octets offset request last asks =
      record {
        asked = ap (λ (x : Asked). asked_with x m.nonce) last.asked;
        subkey_is = last.subkey_is;
        is_request = same_request a sent.moment.nonce subkey offset m request
            (subst (λ (x : Asked). IsServiceRequest t terms by x subkey offset m request) last.asked
            (subst (λ (k : Key). IsServiceRequest t terms by e.asked k offset m request) last.subkey_is asks.is_request));
      }

  step_last : (a : Asked) (subkey : Key) (e : ServiceExchange) (sent : Sent) (m : Moment) (octets : List ℕ) (outcome : Result ServiceStep ClientError)
      (after : ServiceExchange) → IsLastServiceRequest t terms by a subkey e sent → ServiceStepsTo t terms by e m octets outcome after
      → IsLastServiceRequest t terms by a subkey after (sent_after sent m outcome)
  step_last a subkey e sent m octets (Ok (steps.Send request)) after last (offset, answer, is) =
      subst (λ (x : ServiceExchange). IsLastServiceRequest t terms by a subkey x (record { moment = m; request = request.items })) (sym is)
      (sent_last a subkey e sent m octets offset request.items last answer.1)
  step_last a subkey e sent m octets (Ok (steps.Granted g)) after last (answer, is) =
      subst (λ (x : ServiceExchange). IsLastServiceRequest t terms by a subkey x sent) (sym is) last
  step_last a subkey e sent m octets (Ok steps.Wait) after last (answer, is) =
      subst (λ (x : ServiceExchange). IsLastServiceRequest t terms by a subkey x sent) (sym is) last
  step_last a subkey e sent m octets (Err error) after last (refused, is) =
      subst (λ (x : ServiceExchange). IsLastServiceRequest t terms by a subkey x sent) (sym is) last

  begun_last : (a : Asked) (subkey : Key) (offset : Option ℤ) (m : Moment) (e : ServiceExchange) (request : List ℕ)
      → IsServiceBegun t terms by a subkey offset m e request → IsLastServiceRequest t terms by a subkey e (record { moment = m; request = request })
  begun_last a subkey offset m e request begun = record {
    asked = begun.asked;
    subkey_is = begun.subkey_is;
    is_request = subst (λ (o : Option ℤ). IsServiceRequest t terms by a subkey o m request) (sym begun.offset_is) begun.is_request;
  }

  pub begun_run_last : (a : Asked) (subkey : Key) (offset : Option ℤ) (m : Moment) (e : ServiceExchange) (request : List ℕ) (calls : List ServiceCall)
      (after : ServiceExchange) → IsServiceBegun t terms by a subkey offset m e request → ServiceRuns t terms by e calls after
      → IsLastServiceRequest t terms by a subkey after (last_sent sent_by_call (record { moment = m; request = request }) calls)
  begun_run_last a subkey offset m e request calls after begun run =
      run_last (ServiceStepsBy t terms by) sent_by_call (IsLastServiceRequest t terms by a subkey)
      (λ x sent call next last h. step_last a subkey x sent call.moment call.octets call.outcome next last h)
      e (record { moment = m; request = request }) calls after (begun_last a subkey offset m e request begun) run

  -- ---- a ticket

  granted_for : (a : Asked) (subkey : Key) (e : ServiceExchange) (sent : Sent) (m : Moment) (octets : List ℕ) (g : Granted) (after : ServiceExchange)
      → IsLastServiceRequest t terms by a subkey e sent → IsServiceStep t terms by e m octets (steps.Granted g) after
      → IsServiceTicketFor t terms by a subkey e sent m octets g
  granted_for a subkey e sent m octets g after last step = record {
    last = last;
    is_granted = rw (last.asked, last.subkey_is) at step.0.1;
  }

  pub ticket_for : (a : Asked) (subkey : Key) (offset : Option ℤ) (m : Moment) (begun : ServiceExchange) (request : List ℕ) (calls : List ServiceCall)
      (before : ServiceExchange) (now : Moment) (octets : List ℕ) (g : Granted) (after : ServiceExchange)
      → IsServiceBegun t terms by a subkey offset m begun request → ServiceRuns t terms by begun calls before
      → IsServiceStep t terms by before now octets (steps.Granted g) after
      → IsServiceTicketFor t terms by a subkey before (last_sent sent_by_call (record { moment = m; request = request }) calls) now octets g
  ticket_for a subkey offset m begun request calls before now octets g after is run step =
      granted_for a subkey before (last_sent sent_by_call (record { moment = m; request = request }) calls) now octets g after
      (begun_run_last a subkey offset m begun request calls before is run) step
