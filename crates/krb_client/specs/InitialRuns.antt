-- Whole runs of an exchange for a first ticket (RFC 4120, 3.1).
use Rattle.std.specs.Prelude.{◌≡◌, ℕ, List, Result, Ok, Err}
use Rattle.krb_client.specs.declared.keys.secret.Secret.{Secret}
use Rattle.krb_client.specs.Granted.{IsFirstGranted}
use Rattle.krb_client.specs.declared.replies.granted.Granted.{Granted}
use Rattle.krb_client_rules.specs.declared.asked.Asked.{Asked}
use Rattle.krb_client_rules.specs.declared.key.Key.{Key}
use Rattle.krb_client.specs.Initial.{IsNoAnswer, IsStep, IsUsedKey, asked_with}
use Rattle.krb_client.specs.Moments.{clock_of}
use Rattle.krb_client.specs.Requests.{IsInitialRequest}
use Rattle.krb_client.specs.Runs.{Runs, Sent}
use Rattle.krb_client.specs.Types.{InitialTypes}
use Rattle.krb_client.specs.declared.error.ClientError.{ClientError}
use Rattle.krb_client.specs.declared.initial.InitialExchange.{InitialExchange}
use Rattle.krb_client.specs.declared.initial.InitialStep.{InitialStep}
use Rattle.krb_client.specs.declared.initial.InitialStep.TheVariants as steps
use Rattle.krb_client.specs.declared.moment.Moment.{Moment}
use Rattle.krb_client.specs.declared.terms.Terms.{Terms}

-- one call of `step`: what came, when, and what followed
pub record InitialCall : Type 0 where
  pub secret : Secret
  pub moment : Moment
  pub octets : List ℕ
  pub outcome : Result InitialStep ClientError

-- what the engine answers, and the exchange after it; after an error it is as it was
abbrev pub StepsTo : InitialTypes → Terms → InitialExchange → Secret → Moment → List ℕ → Result InitialStep ClientError → InitialExchange → Type 0
StepsTo t terms e s m octets (Ok answer) after = IsStep t terms e s m octets answer after
StepsTo t terms e s m octets (Err error) after = IsNoAnswer t terms e s m octets error × (after ≡ e)

abbrev pub InitialStepsBy : InitialTypes → Terms → InitialExchange → InitialCall → InitialExchange → Type 0
InitialStepsBy t terms e call after = StepsTo t terms e call.secret call.moment call.octets call.outcome after

abbrev pub InitialRuns : InitialTypes → Terms → InitialExchange → List InitialCall → InitialExchange → Type 0
InitialRuns t terms e calls after = Runs (InitialStepsBy t terms) e calls after

-- how many requests a call makes
abbrev pub requests_in : Result InitialStep ClientError → ℕ
requests_in (Ok (steps.Send request)) = 1
requests_in (Ok other) = 0
requests_in (Err error) = 0

abbrev pub requests_of : InitialCall → ℕ
requests_of call = requests_in call.outcome

-- the last request after a call
abbrev pub sent_after : Sent → Moment → Result InitialStep ClientError → Sent
sent_after sent m (Ok (steps.Send request)) = record { moment = m; request = request.items }
sent_after sent m (Ok other) = sent
sent_after sent m (Err error) = sent

abbrev pub sent_by_call : Sent → InitialCall → Sent
sent_by_call sent call = sent_after sent call.moment call.outcome

-- The exchange waits for a reply to this request: it is the AS-REQ for what is asked, under the nonce of its own moment, with the time under the
-- exchange's key, by the exchange's offset.
pub record IsLastRequest (t : InitialTypes) (terms : Terms) (a : Asked) (e : InitialExchange) (sent : Sent) : Type 0 where
  pub asked : e.asked ≡ asked_with a sent.moment.nonce
  pub is_request : IsInitialRequest t terms a e.key e.offset sent.moment sent.request

-- The octets are an AS-REP that grants this, under the key of the last request or the client's for the reply, to what was asked under the nonce of that
-- request.
pub record IsTicketFor (t : InitialTypes) (terms : Terms) (a : Asked) (e : InitialExchange) (sent : Sent) (s : Secret) (m : Moment) (octets : List ℕ)
    (g : Granted) : Type 0 where
  pub last : IsLastRequest t terms a e sent
  pub key : Key
  pub is_key : IsUsedKey t terms e s octets key
  pub is_granted : IsFirstGranted t.as_rep t.part t.other_part (asked_with a sent.moment.nonce) (clock_of terms e.offset m) key octets g
