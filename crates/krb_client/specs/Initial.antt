-- An exchange for a first ticket, step by step (RFC 4120, 3.1).
use Rattle.std.specs.Prelude.{◌≡◌, ◌⊎◌, ℕ, ℤ, List, Option, Some, None}
use Rattle.krb_client.specs.declared.keys.secret.Secret.{Secret}
use Rattle.krb_client.specs.Granted.{IsFirstGranted, IsFirstRefused}
use Rattle.krb_client.specs.Messages.{IsNoMessage, error_numbers}
use Rattle.krb_client.specs.Reported.{IsReported}
use Rattle.krb_client.specs.declared.replies.error.ReplyError.{ReplyError}
use Rattle.krb_client.specs.declared.replies.granted.Granted.{Granted}
use Rattle.krb_client.specs.declared.replies.reported.Reported.{Reported}
use Rattle.krb_client.specs.Bodies.{IsNoBody}
use Rattle.krb_client.specs.Errors.{IsMemoryOr}
use Rattle.krb_client.specs.declared.requests.error.RequestError.{RequestError}
use Rattle.krb_client_rules.specs.declared.asked.Asked.{Asked}
use Rattle.krb_client_rules.specs.declared.key.Key.{Key}
use Rattle.krb_client.specs.Hints.{IsKeyOfReply, IsNoKeyOfReply}
use Rattle.krb_client.specs.Kinds.{BeginsWith, as_rep_tag, krb_error_tag}
use Rattle.krb_client.specs.Moments.{clock_of}
use Rattle.krb_client.specs.Passing.{IsNotPassedOver, IsPassedOver}
use Rattle.krb_client.specs.Reports.{CallsFor, CallsForNothing}
use Rattle.krb_client.specs.Requests.{IsInitialRequest, IsNoInitialRequest, wanted_of}
use Rattle.krb_client.specs.Types.{InitialTypes}
use Rattle.krb_client.specs.declared.error.ClientError.{ClientError}
use Rattle.krb_client.specs.declared.error.ClientError.TheVariants as errors
use Rattle.krb_client.specs.declared.initial.Answer.{Answer}
use Rattle.krb_client.specs.declared.initial.Answer.TheVariants as answers
use Rattle.krb_client.specs.declared.initial.InitialExchange.{InitialExchange}
use Rattle.krb_client.specs.declared.initial.InitialStep.{InitialStep}
use Rattle.krb_client.specs.declared.initial.InitialStep.TheVariants as steps
use Rattle.krb_client.specs.declared.moment.Moment.{Moment}
use Rattle.krb_client.specs.declared.reported.Change.{Change}
use Rattle.krb_client.specs.declared.reported.Change.TheVariants as changes
use Rattle.krb_client.specs.declared.terms.Terms.{Terms}

-- ---- what changes

-- what is asked, under this nonce
abbrev pub asked_with : Asked → ℕ → Asked
asked_with a nonce = record a { nonce = nonce }

abbrev pub key_after : Option Key → Change → Option Key
key_after key (changes.Key told) = Some told
key_after key (changes.Offset offset) = key

abbrev pub offset_after : Option ℤ → Change → Option ℤ
offset_after offset (changes.Key told) = offset
offset_after offset (changes.Offset ahead) = Some ahead

-- the exchange after a change and a request of this nonce
abbrev pub taken : InitialExchange → Change → ℕ → InitialExchange
taken e change nonce = record {
  asked = asked_with e.asked nonce;
  offset = offset_after e.offset change;
  key = key_after e.key change;
}

-- ---- the first request

-- The exchange asks for this under the nonce of the moment, with no key and no time of the KDC's, and the octets are the AS-REQ without pre-authentication.
pub record IsBegun (t : InitialTypes) (terms : Terms) (a : Asked) (m : Moment) (e : InitialExchange) (request : List ℕ) : Type 0 where
  pub asked : e.asked ≡ asked_with a m.nonce
  pub no_offset : e.offset ≡ None
  pub no_key : e.key ≡ None
  pub is_request : IsInitialRequest t terms a None None m request

abbrev pub IsNotBegun : Terms → Asked → Moment → RequestError → Type 0
IsNotBegun terms a m error = IsMemoryOr error (IsNoBody (wanted_of terms a m.nonce) error)

-- ---- replies

-- under this key the octets grant this; or they open and are of another request, and are passed over
abbrev pub IsChecked : InitialTypes → Terms → InitialExchange → Moment → List ℕ → Key → Option Granted → Type 0
IsChecked t terms e m octets key (Some g) = IsFirstGranted t.as_rep t.part t.other_part e.asked (clock_of terms e.offset m) key octets g
IsChecked t terms e m octets key None =
    (why : ReplyError) × IsFirstRefused t.as_rep t.part t.other_part e.asked (clock_of terms e.offset m) key octets why × IsPassedOver terms why

abbrev pub IsNotChecked : InitialTypes → Terms → InitialExchange → Moment → List ℕ → Key → ClientError → Type 0
IsNotChecked t terms e m octets key error =
    (why : ReplyError) × (error ≡ errors.Reply why)
    × IsFirstRefused t.as_rep t.part t.other_part e.asked (clock_of terms e.offset m) key octets why × IsNotPassedOver terms why

-- the key under which the time was sent, and where none was, the client's key for the reply
abbrev pub IsUsedKey : InitialTypes → Terms → InitialExchange → Secret → List ℕ → Key → Type 0
IsUsedKey t terms e s octets key =
    (e.key ≡ Some key) ⊎ ((e.key ≡ None) × IsKeyOfReply t e.asked s terms.limits octets key)

abbrev pub IsReplyTaken : InitialTypes → Terms → InitialExchange → Secret → Moment → List ℕ → Option Granted → Type 0
IsReplyTaken t terms e s m octets found = (key : Key) × IsUsedKey t terms e s octets key × IsChecked t terms e m octets key found

-- why it is refused: there is no key for it; else the first rule that it breaks
abbrev pub RefusesReply : InitialTypes → Terms → InitialExchange → Secret → Moment → List ℕ → ClientError → Type 0
RefusesReply t terms e s m octets error =
    ((e.key ≡ None) × IsNoKeyOfReply t e.asked s terms.limits octets error)
    ⊎ ((key : Key) × IsUsedKey t terms e s octets key × IsNotChecked t terms e m octets key error)

-- ---- errors of the KDC

-- The octets report an error that calls for this change, and the request is the AS-REQ that follows on it.
pub record Asks (t : InitialTypes) (terms : Terms) (e : InitialExchange) (s : Secret) (m : Moment) (octets : List ℕ) (change : Change)
    (request : List ℕ) : Type 0 where
  pub report : Reported
  pub is_reported : IsReported t.krb_error octets report
  pub calls : CallsFor t terms e s m report change
  pub is_request : IsInitialRequest t terms e.asked (key_after e.key change) (offset_after e.offset change) m request

-- why no request follows: the octets are no KRB-ERROR; else the error calls for nothing; else there is no request
abbrev pub RefusesError : InitialTypes → Terms → InitialExchange → Secret → Moment → List ℕ → ClientError → Type 0
RefusesError t terms e s m octets error =
    ((why : ReplyError) × (error ≡ errors.Reply why) × IsNoMessage t.krb_error error_numbers 30 octets why)
    ⊎ ((report : Reported) × IsReported t.krb_error octets report
    × (CallsForNothing t terms e s report error
    ⊎ ((change : Change) × CallsFor t terms e s m report change × (why : RequestError) × (error ≡ errors.Request why)
    × IsMemoryOr why (IsNoInitialRequest t terms e.asked (key_after e.key change) (offset_after e.offset change) m why))))

-- ---- a step

abbrev pub IsAnswer : InitialTypes → Terms → InitialExchange → Secret → Moment → List ℕ → Answer → Type 0
IsAnswer t terms e s m octets (answers.Send change request) = BeginsWith krb_error_tag octets × Asks t terms e s m octets change request.items
IsAnswer t terms e s m octets (answers.Granted g) = BeginsWith as_rep_tag octets × IsReplyTaken t terms e s m octets (Some g)
IsAnswer t terms e s m octets answers.Wait = BeginsWith as_rep_tag octets × IsReplyTaken t terms e s m octets None

-- The octets are neither an AS-REP nor a KRB-ERROR by their tag; or they are one and are refused.
abbrev pub IsNoAnswer : InitialTypes → Terms → InitialExchange → Secret → Moment → List ℕ → ClientError → Type 0
IsNoAnswer t terms e s m octets error =
    ((BeginsWith as_rep_tag octets → ⊥) × (BeginsWith krb_error_tag octets → ⊥) × (error ≡ errors.OtherMessage))
    ⊎ (BeginsWith as_rep_tag octets × RefusesReply t terms e s m octets error)
    ⊎ (BeginsWith krb_error_tag octets × RefusesError t terms e s m octets error)

-- What follows on the octets, and the exchange after it: another request on an error that calls for it, under a nonce of its own; or a ticket; or the
-- reply is passed over, and nothing changes.
abbrev pub IsStep : InitialTypes → Terms → InitialExchange → Secret → Moment → List ℕ → InitialStep → InitialExchange → Type 0
IsStep t terms e s m octets (steps.Send request) after =
    (change : Change) × IsAnswer t terms e s m octets (answers.Send change request) × (after ≡ taken e change m.nonce)
IsStep t terms e s m octets (steps.Granted g) after = IsAnswer t terms e s m octets (answers.Granted g) × (after ≡ e)
IsStep t terms e s m octets steps.Wait after = IsAnswer t terms e s m octets answers.Wait × (after ≡ e)
