-- A further ticket, step by step (RFC 4120, 3.3).
use Rattle.std.specs.Prelude.{◌≡◌, ◌≢◌, ℕ, ℤ, List, [], Option, None, Result, Ok, Err}
use Rattle.krb_client.specs.Requests.{IsNoServiceRequest}
use Rattle.krb_client.specs.Service.{IsNoServiceAnswer, IsServiceBegun, IsServiceStep}
use Rattle.krb_client.specs.Types.{ServiceTypes}
use Rattle.krb_client.specs.declared.error.ClientError.{ClientError}
use Rattle.krb_client.specs.declared.moment.Moment.{Moment}
use Rattle.krb_client.specs.declared.service.ServiceExchange.{ServiceExchange}
use Rattle.krb_client.specs.declared.service.ServiceStep.{ServiceStep}
use Rattle.krb_client.specs.declared.terms.ByTicket.{ByTicket}
use Rattle.krb_client.specs.declared.terms.Terms.{Terms}
use Rattle.krb_client.specs.Errors.{IsMemoryOr}
use Rattle.krb_client.specs.declared.requests.error.RequestError.{RequestError}
use Rattle.krb_client_rules.specs.declared.asked.Asked.{Asked}
use Rattle.krb_client_rules.specs.declared.key.Key.{Key}
use Rattle.krb_crypto.specs.declared.cipher_suite.CipherSuite.{CipherSuite}
use Rattle.krb_der_core.specs.declared.der.DerEncode.{Ghosts as EncodingOf}
use Rattle.krb_messages.specs.declared.messages.replies.EncKdcRepPart.{EncKdcRepPart}
use Rattle.krb_types.specs.declared.data_types.tickets.TicketInner.{TicketInner}
use Rattle.krb_c_calls.specs.declared.call_error.CallError.{CallError}
use Rattle.krb_c_calls.specs.declared.call_error.CallError.TheVariants as calls
use Rattle.krb_c_client.specs.Asked.{AreTerms, IsNotPrepared, IsPrepared}
use Rattle.krb_c_client.specs.Exchanges.{offset_in, written}
use Rattle.krb_c_client.specs.Followed.{TellsFurther}
use Rattle.krb_c_client.specs.Inputs.{Inputs}
use Rattle.krb_c_client.specs.Means.{AreMeans, AreNoMeans, IsByOf, Lent}
use Rattle.krb_c_client.specs.Records.{sends}
use Rattle.krb_c_client.specs.Refusals.{client_refusal, out_of_turn, request_refusal}
use Rattle.krb_c_client.specs.Telling.{Tells}
use Rattle.krb_c_client.specs.Turns.{HasBegun, IsFurtherTurn, IsUnbegun}
use Rattle.krb_c_client.specs.declared.records.ExchangeRecord.{ExchangeRecord}
use Rattle.krb_c_client.specs.declared.records.FollowedRecord.{FollowedRecord}
use Rattle.krb_c_client.specs.declared.refusal.Refusal.{Refusal}
use Rattle.krb_c_client.specs.declared.refusal.Refusal.TheVariants as refusals
use Rattle.krb_c_client.specs.declared.tell.Followed.{Followed}

-- ---- the beginning

-- the exchange of the engine begins, its request is handed out, and it is kept, but for the subkey, which is the caller's
pub record IsBeginning (t : ServiceTypes) (terms : Terms) (by : ByTicket) (a : Asked) (subkey : Key) (offset : Option ℤ) (m : Moment) (f : Followed) : Type 0 where
  pub exchange : ServiceExchange
  pub is_begun : IsServiceBegun t terms by a subkey offset m exchange f.told.octets.items
  pub kept : f.exchange ≡ written exchange.offset exchange.asked.nonce None
  pub told_is : f.told.record ≡ sends

-- it does not, and this is why
pub record IsNoBeginning (terms : Terms) (by : ByTicket) (a : Asked) (subkey : Key) (offset : Option ℤ) (m : Moment) (r : Refusal) : Type 0 where
  pub error : RequestError
  pub is_not_begun : IsMemoryOr error (IsNoServiceRequest terms by a subkey offset m error)
  pub refusal_is : r ≡ request_refusal error

-- by what is asked; the KDC's time is that which an exchange before this one took
pub record Opens (t : ServiceTypes) (i : Inputs) (by : ByTicket) (subkey : Key) (before : ExchangeRecord) (a : Asked) (m : Moment) (f : Followed) : Type 0 where
  pub terms : Terms
  pub are_terms : AreTerms i terms
  pub is_beginning : IsBeginning t terms by a subkey (offset_in before) m f

pub record OpensNot (i : Inputs) (by : ByTicket) (subkey : Key) (before : ExchangeRecord) (a : Asked) (m : Moment) (r : Refusal) : Type 0 where
  pub terms : Terms
  pub are_terms : AreTerms i terms
  pub is_no_beginning : IsNoBeginning terms by a subkey (offset_in before) m r

-- ---- a step

-- the engine makes a step on the message, which is told, and the exchange after it is kept
pub record IsNext (t : ServiceTypes) (tickets : EncodingOf TicketInner) (parts : EncodingOf EncKdcRepPart) (terms : Terms) (by : ByTicket) (e : ServiceExchange)
    (m : Moment) (message : List ℕ) (f : Followed) : Type 0 where
  pub step : ServiceStep
  pub after : ServiceExchange
  pub is_step : IsServiceStep t terms by e m message step after
  pub kept : f.exchange ≡ written after.offset after.asked.nonce None
  pub told_is : TellsFurther tickets parts step f.told.record f.told.octets.items

-- an allocation failed; or it makes none, and this is why
pub data IsNotNext (t : ServiceTypes) (terms : Terms) (by : ByTicket) (e : ServiceExchange) (m : Moment) (message : List ℕ) (r : Refusal) : Type 0 where
  no_memory : r ≡ refusals.Failed calls.Memory → IsNotNext t terms by e m message r
  no_answer : (error : ClientError) → IsNoServiceAnswer t terms by e m message error → r ≡ client_refusal error → IsNotNext t terms by e m message r

-- the exchange as it was kept, with the caller's subkey
abbrev pub exchange_of : ExchangeRecord → Asked → Key → ServiceExchange
exchange_of r a subkey = record { asked = a; offset = offset_in r; subkey = subkey }

pub record GoesOn (t : ServiceTypes) (tickets : EncodingOf TicketInner) (parts : EncodingOf EncKdcRepPart) (i : Inputs) (by : ByTicket) (subkey : Key)
    (before : ExchangeRecord) (a : Asked) (m : Moment) (f : Followed) : Type 0 where
  pub terms : Terms
  pub are_terms : AreTerms i terms
  pub is_next : IsNext t tickets parts terms by (exchange_of before a subkey) m i.message f

pub record GoesNotOn (t : ServiceTypes) (i : Inputs) (by : ByTicket) (subkey : Key) (before : ExchangeRecord) (a : Asked) (m : Moment) (r : Refusal) : Type 0 where
  pub terms : Terms
  pub are_terms : AreTerms i terms
  pub is_not_next : IsNotNext t terms by (exchange_of before a subkey) m i.message r

-- ---- all of it

-- the ticket, its session key and the subkey are read, and lent to the engine
pub record IsLent (tickets : EncodingOf TicketInner) (l : Lent) (by : ByTicket) (subkey : Key) : Type 0 where
  pub ticket : TicketInner
  pub suite : CipherSuite
  pub are_means : AreMeans tickets l ticket suite subkey
  pub is_by : IsByOf ticket suite l.session_key by

-- no octets begin an exchange that is all zeros but perhaps for the KDC's time, and octets are a step of one that has begun
pub data FollowsFurther (t : ServiceTypes) (tickets : EncodingOf TicketInner) (parts : EncodingOf EncKdcRepPart) (i : Inputs) (l : Lent)
    (before : ExchangeRecord) (f : Followed) : Type 0 where
  begins : (a : Asked) (m : Moment) (by : ByTicket) (subkey : Key) → IsUnbegun before → IsPrepared i before.nonce a m → IsLent tickets l by subkey
      → i.message ≡ [] → Opens t i by subkey before a m f → FollowsFurther t tickets parts i l before f
  goes_on : (a : Asked) (m : Moment) (by : ByTicket) (subkey : Key) → HasBegun before → IsPrepared i before.nonce a m → IsLent tickets l by subkey
      → i.message ≢ [] → GoesOn t tickets parts i by subkey before a m f → FollowsFurther t tickets parts i l before f

-- the first that is so: the call is out of turn; what is asked is not as it has to be; there is no ticket or no suite; the engine refuses
pub data RefusesFurther (t : ServiceTypes) (tickets : EncodingOf TicketInner) (i : Inputs) (l : Lent) (before : ExchangeRecord) (r : Refusal) : Type 0 where
  not_in_turn : (IsFurtherTurn before i.message → ⊥) → r ≡ out_of_turn → RefusesFurther t tickets i l before r
  not_prepared : (error : CallError) → IsFurtherTurn before i.message → IsNotPrepared i error → r ≡ refusals.Failed error
      → RefusesFurther t tickets i l before r
  no_means : (a : Asked) (m : Moment) (error : CallError) → IsFurtherTurn before i.message → IsPrepared i before.nonce a m → AreNoMeans tickets l error
      → r ≡ refusals.Failed error → RefusesFurther t tickets i l before r
  begins_not : (a : Asked) (m : Moment) (by : ByTicket) (subkey : Key) → IsUnbegun before → IsPrepared i before.nonce a m → IsLent tickets l by subkey
      → i.message ≡ [] → OpensNot i by subkey before a m r → RefusesFurther t tickets i l before r
  goes_not_on : (a : Asked) (m : Moment) (by : ByTicket) (subkey : Key) → HasBegun before → IsPrepared i before.nonce a m → IsLent tickets l by subkey
      → i.message ≢ [] → GoesNotOn t i by subkey before a m r → RefusesFurther t tickets i l before r

abbrev pub IsFurtherOutcome : ServiceTypes → EncodingOf TicketInner → EncodingOf EncKdcRepPart → Inputs → Lent → ExchangeRecord → Result Followed Refusal
    → Type 0
IsFurtherOutcome t tickets parts i l before (Ok f) = FollowsFurther t tickets parts i l before f
IsFurtherOutcome t tickets parts i l before (Err r) = RefusesFurther t tickets i l before r

pub record IsTicketCall (t : ServiceTypes) (tickets : EncodingOf TicketInner) (parts : EncodingOf EncKdcRepPart) (i : Inputs) (l : Lent)
    (before after : ExchangeRecord) (told : FollowedRecord) (out_before out_after : List ℕ) (size status : ℕ) : Type 0 where
  pub outcome : Result Followed Refusal
  pub is_outcome : IsFurtherOutcome t tickets parts i l before outcome
  pub tells : Tells outcome before after told out_before out_after size status
