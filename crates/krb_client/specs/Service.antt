-- An exchange for a further ticket, step by step (RFC 4120, 3.3).
use Rattle.std.specs.Prelude.{◌≡◌, ◌⊎◌, ℕ, ℤ, pos, List, Option, Some, None}
use Rattle.krb_client.specs.Granted.{IsGranted, IsNotGranted, tgs_form}
use Rattle.krb_client.specs.Messages.{IsNoMessage, error_numbers}
use Rattle.krb_client.specs.Reported.{IsReported}
use Rattle.krb_client.specs.declared.replies.error.ReplyError.{ReplyError}
use Rattle.krb_client.specs.declared.replies.granted.Granted.{Granted}
use Rattle.krb_client.specs.declared.replies.reported.Reported.{Reported}
use Rattle.krb_client.specs.Errors.{IsMemoryOr}
use Rattle.krb_client.specs.declared.requests.error.RequestError.{RequestError}
use Rattle.krb_client_rules.specs.declared.asked.Asked.{Asked}
use Rattle.krb_client_rules.specs.declared.key.Key.{Key}
use Rattle.krb_client.specs.Initial.{asked_with}
use Rattle.krb_client.specs.Kinds.{BeginsWith, krb_error_tag, tgs_rep_tag}
use Rattle.krb_client.specs.Moments.{ahead_of, clock_of}
use Rattle.krb_client.specs.Passing.{IsNotPassedOver, IsPassedOver}
use Rattle.krb_client.specs.Reports.{NeedsTime}
use Rattle.krb_client.specs.Requests.{IsNoServiceRequest, IsServiceRequest}
use Rattle.krb_client.specs.Types.{ServiceTypes}
use Rattle.krb_client.specs.declared.error.ClientError.{ClientError}
use Rattle.krb_client.specs.declared.error.ClientError.TheVariants as errors
use Rattle.krb_client.specs.declared.moment.Moment.{Moment}
use Rattle.krb_client.specs.declared.service.ServiceAnswer.{ServiceAnswer}
use Rattle.krb_client.specs.declared.service.ServiceAnswer.TheVariants as answers
use Rattle.krb_client.specs.declared.service.ServiceExchange.{ServiceExchange}
use Rattle.krb_client.specs.declared.service.ServiceStep.{ServiceStep}
use Rattle.krb_client.specs.declared.service.ServiceStep.TheVariants as steps
use Rattle.krb_client.specs.declared.terms.ByTicket.{ByTicket}
use Rattle.krb_client.specs.declared.terms.Terms.{Terms}

-- the exchange by the KDC's time, after a request of this nonce
abbrev pub retimed : ServiceExchange → Option ℤ → ℕ → ServiceExchange
retimed e offset nonce = record { asked = asked_with e.asked nonce; offset = offset; subkey = e.subkey }

-- The exchange asks for this under the nonce of the moment, and the octets are the TGS-REQ by the ticket with the subkey.
pub record IsServiceBegun (t : ServiceTypes) (terms : Terms) (by : ByTicket) (a : Asked) (subkey : Key) (offset : Option ℤ) (m : Moment) (e : ServiceExchange)
    (request : List ℕ) : Type 0 where
  pub asked : e.asked ≡ asked_with a m.nonce
  pub offset_is : e.offset ≡ offset
  pub subkey_is : e.subkey ≡ subkey
  pub is_request : IsServiceRequest t terms by a subkey offset m request

-- under the subkey (key usage 9) the octets grant this; or they open and are of another request, and are passed over
abbrev pub IsTicketChecked : ServiceTypes → Terms → ServiceExchange → Moment → List ℕ → Option Granted → Type 0
IsTicketChecked t terms e m octets (Some g) = IsGranted (tgs_form t.tgs_rep t.part (pos 9)) e.asked (clock_of terms e.offset m) e.subkey octets g
IsTicketChecked t terms e m octets None =
    (why : ReplyError) × IsNotGranted (tgs_form t.tgs_rep t.part (pos 9)) e.asked (clock_of terms e.offset m) e.subkey octets why × IsPassedOver terms why

abbrev pub IsTicketNotChecked : ServiceTypes → Terms → ServiceExchange → Moment → List ℕ → ClientError → Type 0
IsTicketNotChecked t terms e m octets error =
    (why : ReplyError) × (error ≡ errors.Reply why)
    × IsNotGranted (tgs_form t.tgs_rep t.part (pos 9)) e.asked (clock_of terms e.offset m) e.subkey octets why × IsNotPassedOver terms why

-- The octets report that the clocks differ, the KDC's time was not taken, and the request is the TGS-REQ by it.
pub record AsksByTicket (t : ServiceTypes) (terms : Terms) (by : ByTicket) (e : ServiceExchange) (m : Moment) (octets : List ℕ) (offset : Option ℤ)
    (request : List ℕ) : Type 0 where
  pub report : Reported
  pub is_reported : IsReported t.krb_error octets report
  pub needs_time : NeedsTime report e.offset
  pub is_offset : offset ≡ Some (ahead_of report.seconds m.seconds)
  pub is_request : IsServiceRequest t terms by e.asked e.subkey offset m request

-- why no request follows: the octets are no KRB-ERROR; else another error is told by its code; else there is no request
abbrev pub RefusesServiceError : ServiceTypes → Terms → ByTicket → ServiceExchange → Moment → List ℕ → ClientError → Type 0
RefusesServiceError t terms by e m octets error =
    ((why : ReplyError) × (error ≡ errors.Reply why) × IsNoMessage t.krb_error error_numbers 30 octets why)
    ⊎ ((report : Reported) × IsReported t.krb_error octets report
    × (((NeedsTime report e.offset → ⊥) × (error ≡ errors.Kdc report.code))
    ⊎ (NeedsTime report e.offset × (why : RequestError) × (error ≡ errors.Request why)
    × IsMemoryOr why (IsNoServiceRequest terms by e.asked e.subkey (Some (ahead_of report.seconds m.seconds)) m why))))

-- ---- a step

abbrev pub IsServiceAnswer : ServiceTypes → Terms → ByTicket → ServiceExchange → Moment → List ℕ → ServiceAnswer → Type 0
IsServiceAnswer t terms by e m octets (answers.Send offset request) =
    BeginsWith krb_error_tag octets × AsksByTicket t terms by e m octets offset request.items
IsServiceAnswer t terms by e m octets (answers.Granted g) = BeginsWith tgs_rep_tag octets × IsTicketChecked t terms e m octets (Some g)
IsServiceAnswer t terms by e m octets answers.Wait = BeginsWith tgs_rep_tag octets × IsTicketChecked t terms e m octets None

-- The octets are neither a TGS-REP nor a KRB-ERROR by their tag; or they are one and are refused.
abbrev pub IsNoServiceAnswer : ServiceTypes → Terms → ByTicket → ServiceExchange → Moment → List ℕ → ClientError → Type 0
IsNoServiceAnswer t terms by e m octets error =
    ((BeginsWith tgs_rep_tag octets → ⊥) × (BeginsWith krb_error_tag octets → ⊥) × (error ≡ errors.OtherMessage))
    ⊎ (BeginsWith tgs_rep_tag octets × IsTicketNotChecked t terms e m octets error)
    ⊎ (BeginsWith krb_error_tag octets × RefusesServiceError t terms by e m octets error)

-- What follows on the octets, and the exchange after it: another request by the KDC's time, under a nonce of its own; or a ticket; or the reply is passed
-- over, and nothing changes.
abbrev pub IsServiceStep : ServiceTypes → Terms → ByTicket → ServiceExchange → Moment → List ℕ → ServiceStep → ServiceExchange → Type 0
IsServiceStep t terms by e m octets (steps.Send request) after =
    (offset : Option ℤ) × IsServiceAnswer t terms by e m octets (answers.Send offset request) × (after ≡ retimed e offset m.nonce)
IsServiceStep t terms by e m octets (steps.Granted g) after = IsServiceAnswer t terms by e m octets (answers.Granted g) × (after ≡ e)
IsServiceStep t terms by e m octets steps.Wait after = IsServiceAnswer t terms by e m octets answers.Wait × (after ≡ e)
