-- Whole runs of an exchange for a further ticket (RFC 4120, 3.3).
use Rattle.std.specs.Prelude.{◌≡◌, ℕ, pos, List, Result, Ok, Err}
use Rattle.krb_client.specs.Granted.{IsGranted, tgs_form}
use Rattle.krb_client.specs.declared.replies.granted.Granted.{Granted}
use Rattle.krb_client_rules.specs.declared.asked.Asked.{Asked}
use Rattle.krb_client_rules.specs.declared.key.Key.{Key}
use Rattle.krb_client.specs.Initial.{asked_with}
use Rattle.krb_client.specs.Moments.{clock_of}
use Rattle.krb_client.specs.Requests.{IsServiceRequest}
use Rattle.krb_client.specs.Runs.{Runs, Sent}
use Rattle.krb_client.specs.Service.{IsNoServiceAnswer, IsServiceStep}
use Rattle.krb_client.specs.Types.{ServiceTypes}
use Rattle.krb_client.specs.declared.error.ClientError.{ClientError}
use Rattle.krb_client.specs.declared.moment.Moment.{Moment}
use Rattle.krb_client.specs.declared.service.ServiceExchange.{ServiceExchange}
use Rattle.krb_client.specs.declared.service.ServiceStep.{ServiceStep}
use Rattle.krb_client.specs.declared.service.ServiceStep.TheVariants as steps
use Rattle.krb_client.specs.declared.terms.ByTicket.{ByTicket}
use Rattle.krb_client.specs.declared.terms.Terms.{Terms}

-- one call of `step`: what came, when, and what followed
pub record ServiceCall : Type 0 where
  pub moment : Moment
  pub octets : List ℕ
  pub outcome : Result ServiceStep ClientError

-- what the engine answers, and the exchange after it; after an error it is as it was
abbrev pub ServiceStepsTo : ServiceTypes → Terms → ByTicket → ServiceExchange → Moment → List ℕ → Result ServiceStep ClientError → ServiceExchange → Type 0
ServiceStepsTo t terms by e m octets (Ok answer) after = IsServiceStep t terms by e m octets answer after
ServiceStepsTo t terms by e m octets (Err error) after = IsNoServiceAnswer t terms by e m octets error × (after ≡ e)

abbrev pub ServiceStepsBy : ServiceTypes → Terms → ByTicket → ServiceExchange → ServiceCall → ServiceExchange → Type 0
ServiceStepsBy t terms by e call after = ServiceStepsTo t terms by e call.moment call.octets call.outcome after

abbrev pub ServiceRuns : ServiceTypes → Terms → ByTicket → ServiceExchange → List ServiceCall → ServiceExchange → Type 0
ServiceRuns t terms by e calls after = Runs (ServiceStepsBy t terms by) e calls after

-- how many requests a call makes
abbrev pub requests_in : Result ServiceStep ClientError → ℕ
requests_in (Ok (steps.Send request)) = 1
requests_in (Ok other) = 0
requests_in (Err error) = 0

abbrev pub requests_of : ServiceCall → ℕ
requests_of call = requests_in call.outcome

-- the last request after a call
abbrev pub sent_after : Sent → Moment → Result ServiceStep ClientError → Sent
sent_after sent m (Ok (steps.Send request)) = record { moment = m; request = request.items }
sent_after sent m (Ok other) = sent
sent_after sent m (Err error) = sent

abbrev pub sent_by_call : Sent → ServiceCall → Sent
sent_by_call sent call = sent_after sent call.moment call.outcome

-- The exchange waits for a reply to this request: it is the TGS-REQ for what is asked, under the nonce of its own moment, with this subkey, by the
-- exchange's offset.
pub record IsLastServiceRequest (t : ServiceTypes) (terms : Terms) (by : ByTicket) (a : Asked) (subkey : Key) (e : ServiceExchange) (sent : Sent) : Type 0 where
  pub asked : e.asked ≡ asked_with a sent.moment.nonce
  pub subkey_is : e.subkey ≡ subkey
  pub is_request : IsServiceRequest t terms by a subkey e.offset sent.moment sent.request

-- The octets are a TGS-REP that grants this under the subkey, to what was asked under the nonce of the last request.
pub record IsServiceTicketFor (t : ServiceTypes) (terms : Terms) (by : ByTicket) (a : Asked) (subkey : Key) (e : ServiceExchange) (sent : Sent) (m : Moment)
    (octets : List ℕ) (g : Granted) : Type 0 where
  pub last : IsLastServiceRequest t terms by a subkey e sent
  pub is_granted : IsGranted (tgs_form t.tgs_rep t.part (pos 9)) (asked_with a sent.moment.nonce) (clock_of terms e.offset m) subkey octets g
