-- A first ticket, step by step (RFC 4120, 3.1).
use Rattle.std.specs.Prelude.{◌≡◌, ◌≢◌, ℕ, List, [], Result, Ok, Err}
use Rattle.krb_client.specs.Initial.{IsBegun, IsNoAnswer, IsNotBegun, IsStep}
use Rattle.krb_client.specs.Types.{InitialTypes}
use Rattle.krb_client.specs.declared.error.ClientError.{ClientError}
use Rattle.krb_client.specs.declared.initial.InitialExchange.{InitialExchange}
use Rattle.krb_client.specs.declared.initial.InitialStep.{InitialStep}
use Rattle.krb_client.specs.declared.moment.Moment.{Moment}
use Rattle.krb_client.specs.declared.terms.Terms.{Terms}
use Rattle.krb_client.specs.declared.keys.secret.Secret.{Secret}
use Rattle.krb_client.specs.declared.keys.secret.Secret.TheVariants as secrets
use Rattle.krb_client.specs.declared.requests.error.RequestError.{RequestError}
use Rattle.krb_client_rules.specs.declared.asked.Asked.{Asked}
use Rattle.krb_der_core.specs.declared.der.DerEncode.{Ghosts as EncodingOf}
use Rattle.krb_messages.specs.declared.messages.replies.EncKdcRepPart.{EncKdcRepPart}
use Rattle.krb_types.specs.declared.data_types.tickets.TicketInner.{TicketInner}
use Rattle.krb_c_accept.specs.Prepared.{HaveNoKeys}
use Rattle.krb_c_calls.specs.declared.call_error.CallError.{CallError}
use Rattle.krb_c_calls.specs.declared.call_error.CallError.TheVariants as calls
use Rattle.krb_c_client.specs.Asked.{AreTerms, IsNotPrepared, IsPrepared}
use Rattle.krb_c_client.specs.Exchanges.{IsKeyIn, IsNoKeyIn, offset_in, written}
use Rattle.krb_c_client.specs.Followed.{TellsFirst}
use Rattle.krb_c_client.specs.Inputs.{Inputs}
use Rattle.krb_c_client.specs.Keys.{AreClientKeys}
use Rattle.krb_c_client.specs.Records.{sends}
use Rattle.krb_c_client.specs.Refusals.{client_refusal, out_of_turn, request_refusal}
use Rattle.krb_c_client.specs.Telling.{Tells}
use Rattle.krb_c_client.specs.Turns.{AreZeros, HasBegun, IsFirstTurn}
use Rattle.krb_c_client.specs.declared.records.ExchangeRecord.{ExchangeRecord}
use Rattle.krb_c_client.specs.declared.records.FollowedRecord.{FollowedRecord}
use Rattle.krb_c_client.specs.declared.refusal.Refusal.{Refusal}
use Rattle.krb_c_client.specs.declared.refusal.Refusal.TheVariants as refusals
use Rattle.krb_c_client.specs.declared.tell.Followed.{Followed}

-- ---- the beginning

-- the exchange of the engine begins, its request is handed out, and it is kept
pub record IsBeginning (t : InitialTypes) (terms : Terms) (a : Asked) (m : Moment) (f : Followed) : Type 0 where
  pub exchange : InitialExchange
  pub is_begun : IsBegun t terms a m exchange f.told.octets.items
  pub kept : f.exchange ≡ written exchange.offset exchange.asked.nonce exchange.key
  pub told_is : f.told.record ≡ sends

-- it does not, and this is why
pub record IsNoBeginning (terms : Terms) (a : Asked) (m : Moment) (r : Refusal) : Type 0 where
  pub error : RequestError
  pub is_not_begun : IsNotBegun terms a m error
  pub refusal_is : r ≡ request_refusal error

-- by what is asked
pub record Opens (t : InitialTypes) (i : Inputs) (a : Asked) (m : Moment) (f : Followed) : Type 0 where
  pub terms : Terms
  pub are_terms : AreTerms i terms
  pub is_beginning : IsBeginning t terms a m f

pub record OpensNot (i : Inputs) (a : Asked) (m : Moment) (r : Refusal) : Type 0 where
  pub terms : Terms
  pub are_terms : AreTerms i terms
  pub is_no_beginning : IsNoBeginning terms a m r

-- ---- a step

-- the exchange of the engine, as it was kept
pub record IsRead (r : ExchangeRecord) (a : Asked) (e : InitialExchange) : Type 0 where
  pub asked : e.asked ≡ a
  pub offset : e.offset ≡ offset_in r
  pub key : IsKeyIn r e.key

-- the engine makes a step on the message, which is told, and the exchange after it is kept
pub record IsNext (t : InitialTypes) (tickets : EncodingOf TicketInner) (parts : EncodingOf EncKdcRepPart) (terms : Terms) (e : InitialExchange) (s : Secret)
    (m : Moment) (message : List ℕ) (f : Followed) : Type 0 where
  pub step : InitialStep
  pub after : InitialExchange
  pub is_step : IsStep t terms e s m message step after
  pub kept : f.exchange ≡ written after.offset after.asked.nonce after.key
  pub told_is : TellsFirst tickets parts step f.told.record f.told.octets.items

-- an allocation failed; or it makes none, and this is why
pub data IsNotNext (t : InitialTypes) (terms : Terms) (e : InitialExchange) (s : Secret) (m : Moment) (message : List ℕ) (r : Refusal) : Type 0 where
  no_memory : r ≡ refusals.Failed calls.Memory → IsNotNext t terms e s m message r
  no_answer : (error : ClientError) → IsNoAnswer t terms e s m message error → r ≡ client_refusal error → IsNotNext t terms e s m message r

-- what the client knows: its password, where there is no keytab, and else its keys in it
abbrev pub IsSecret : List ℕ → List ℕ → Asked → Secret → Type 0
IsSecret password keytab a (secrets.Password octets) = (keytab ≡ []) × (octets.now ≡ password)
IsSecret password keytab a (secrets.Keys keys) = (keytab ≢ []) × AreClientKeys keytab a keys.now

pub record IsAnswered (t : InitialTypes) (tickets : EncodingOf TicketInner) (parts : EncodingOf EncKdcRepPart) (i : Inputs) (password keytab : List ℕ)
    (e : InitialExchange) (m : Moment) (f : Followed) : Type 0 where
  pub terms : Terms
  pub are_terms : AreTerms i terms
  pub secret : Secret
  pub is_secret : IsSecret password keytab e.asked secret
  pub is_next : IsNext t tickets parts terms e secret m i.message f

pub data IsNotAnswered (t : InitialTypes) (i : Inputs) (password keytab : List ℕ) (e : InitialExchange) (m : Moment) (r : Refusal) : Type 0 where
  no_keys : (error : CallError) → keytab ≢ [] → HaveNoKeys keytab error → r ≡ refusals.Failed error → IsNotAnswered t i password keytab e m r
  not_next : (terms : Terms) (secret : Secret) → AreTerms i terms → IsSecret password keytab e.asked secret → IsNotNext t terms e secret m i.message r
      → IsNotAnswered t i password keytab e m r

-- of the exchange as it was kept
pub record GoesOn (t : InitialTypes) (tickets : EncodingOf TicketInner) (parts : EncodingOf EncKdcRepPart) (i : Inputs) (password keytab : List ℕ)
    (before : ExchangeRecord) (a : Asked) (m : Moment) (f : Followed) : Type 0 where
  pub exchange : InitialExchange
  pub is_read : IsRead before a exchange
  pub is_answered : IsAnswered t tickets parts i password keytab exchange m f

pub data GoesNotOn (t : InitialTypes) (i : Inputs) (password keytab : List ℕ) (before : ExchangeRecord) (a : Asked) (m : Moment) (r : Refusal) : Type 0 where
  not_read : (error : CallError) → IsNoKeyIn before error → r ≡ refusals.Failed error → GoesNotOn t i password keytab before a m r
  not_answered : (exchange : InitialExchange) → IsRead before a exchange → IsNotAnswered t i password keytab exchange m r
      → GoesNotOn t i password keytab before a m r

-- ---- all of it

-- no octets begin an exchange that is all zeros, and octets are a step of one that has begun
pub data FollowsFirst (t : InitialTypes) (tickets : EncodingOf TicketInner) (parts : EncodingOf EncKdcRepPart) (i : Inputs) (password keytab : List ℕ)
    (before : ExchangeRecord) (f : Followed) : Type 0 where
  begins : (a : Asked) (m : Moment) → AreZeros before → IsPrepared i before.nonce a m → i.message ≡ [] → Opens t i a m f
      → FollowsFirst t tickets parts i password keytab before f
  goes_on : (a : Asked) (m : Moment) → HasBegun before → IsPrepared i before.nonce a m → i.message ≢ []
      → GoesOn t tickets parts i password keytab before a m f → FollowsFirst t tickets parts i password keytab before f

-- the first that is so: the call is out of turn; what is asked is not as it has to be; the key that was kept has no suite, or the keytab is none; the engine refuses
pub data RefusesFirst (t : InitialTypes) (i : Inputs) (password keytab : List ℕ) (before : ExchangeRecord) (r : Refusal) : Type 0 where
  not_in_turn : (IsFirstTurn before i.message → ⊥) → r ≡ out_of_turn → RefusesFirst t i password keytab before r
  not_prepared : (error : CallError) → IsFirstTurn before i.message → IsNotPrepared i error → r ≡ refusals.Failed error
      → RefusesFirst t i password keytab before r
  begins_not : (a : Asked) (m : Moment) → AreZeros before → IsPrepared i before.nonce a m → i.message ≡ [] → OpensNot i a m r
      → RefusesFirst t i password keytab before r
  goes_not_on : (a : Asked) (m : Moment) → HasBegun before → IsPrepared i before.nonce a m → i.message ≢ []
      → GoesNotOn t i password keytab before a m r → RefusesFirst t i password keytab before r

abbrev pub IsFirstOutcome : InitialTypes → EncodingOf TicketInner → EncodingOf EncKdcRepPart → Inputs → List ℕ → List ℕ → ExchangeRecord
    → Result Followed Refusal → Type 0
IsFirstOutcome t tickets parts i password keytab before (Ok f) = FollowsFirst t tickets parts i password keytab before f
IsFirstOutcome t tickets parts i password keytab before (Err r) = RefusesFirst t i password keytab before r

pub record IsInitialCall (t : InitialTypes) (tickets : EncodingOf TicketInner) (parts : EncodingOf EncKdcRepPart) (i : Inputs) (password keytab : List ℕ)
    (before after : ExchangeRecord) (told : FollowedRecord) (out_before out_after : List ℕ) (size status : ℕ) : Type 0 where
  pub outcome : Result Followed Refusal
  pub is_outcome : IsFirstOutcome t tickets parts i password keytab before outcome
  pub tells : Tells outcome before after told out_before out_after size status
