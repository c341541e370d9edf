-- A reply that renames the client or the server (RFC 6806, 6, 8 and 11).
use Rattle.std.specs.Prelude.{◌≡◌, ℕ, List, Result, Ok, Err}
use Rattle.krb_client.specs.Renamed.{IsNotRenamed, IsRenamed}
use Rattle.krb_client.specs.Types.{InitialTypes}
use Rattle.krb_client.specs.declared.initial.InitialExchange.{InitialExchange}
use Rattle.krb_client.specs.declared.moment.Moment.{Moment}
use Rattle.krb_client.specs.declared.renamed.RenameError.{RenameError}
use Rattle.krb_client.specs.declared.terms.Terms.{Terms}
use Rattle.krb_client.specs.declared.replies.granted.Granted.{Granted}
use Rattle.krb_client_rules.specs.declared.asked.Asked.{Asked}
use Rattle.krb_der_core.specs.declared.der.DerEncode.{Ghosts as EncodingOf}
use Rattle.krb_messages.specs.declared.messages.replies.EncKdcRepPart.{EncKdcRepPart}
use Rattle.krb_types.specs.declared.data_types.checksums.Checksum.{Checksum}
use Rattle.krb_types.specs.declared.data_types.tickets.TicketInner.{TicketInner}
use Rattle.krb_c_calls.specs.declared.call_error.CallError.{CallError}
use Rattle.krb_c_calls.specs.declared.call_error.CallError.TheVariants as calls
use Rattle.krb_c_client.specs.Asked.{AreTerms, IsNotPrepared, IsPrepared}
use Rattle.krb_c_client.specs.Exchanges.{IsNoKeyIn}
use Rattle.krb_c_client.specs.Followed.{IsTold}
use Rattle.krb_c_client.specs.Initial.{IsRead}
use Rattle.krb_c_client.specs.Inputs.{Inputs}
use Rattle.krb_c_client.specs.Refusals.{rename_refusal}
use Rattle.krb_c_client.specs.Telling.{TellsGranted}
use Rattle.krb_c_client.specs.declared.granted.Told.{Told}
use Rattle.krb_c_client.specs.declared.records.ExchangeRecord.{ExchangeRecord}
use Rattle.krb_c_client.specs.declared.records.FollowedRecord.{FollowedRecord}
use Rattle.krb_c_client.specs.declared.refusal.Refusal.{Refusal}
use Rattle.krb_c_client.specs.declared.refusal.Refusal.TheVariants as refusals

module _ (t : InitialTypes) (checksums : EncodingOf Checksum) (tickets : EncodingOf TicketInner) (parts : EncodingOf EncKdcRepPart) where
  -- the engine takes the reply, and what it grants is told
  pub record IsTaken (terms : Terms) (e : InitialExchange) (m : Moment) (request message : List ℕ) (told : Told) : Type 0 where
    pub granted : Granted
    pub is_renamed : IsRenamed t checksums terms e m request message granted
    pub is_told : IsTold tickets parts granted told.record told.octets.items

  -- of the exchange as it was kept
  pub record IsRenamedTold (i : Inputs) (request : List ℕ) (kept : ExchangeRecord) (told : Told) : Type 0 where
    pub asked : Asked
    pub moment : Moment
    pub is_prepared : IsPrepared i kept.nonce asked moment
    pub exchange : InitialExchange
    pub is_read : IsRead kept asked exchange
    pub terms : Terms
    pub are_terms : AreTerms i terms
    pub is_taken : IsTaken terms exchange moment request i.message told

module _ (t : InitialTypes) (checksums : EncodingOf Checksum) where
  -- an allocation failed; or the engine does not take it, and this is why
  pub data TakesNot (terms : Terms) (e : InitialExchange) (m : Moment) (request message : List ℕ) (r : Refusal) : Type 0 where
    no_memory : r ≡ refusals.Failed calls.Memory → TakesNot terms e m request message r
    not_renamed : (error : RenameError) → IsNotRenamed t checksums terms e m request message error → r ≡ rename_refusal error
        → TakesNot terms e m request message r

  -- the first that is so: what is asked is not as it has to be; the key that was kept has no suite; the engine refuses
  pub data RefusesRenamed (i : Inputs) (request : List ℕ) (kept : ExchangeRecord) (r : Refusal) : Type 0 where
    not_prepared : (error : CallError) → IsNotPrepared i error → r ≡ refusals.Failed error → RefusesRenamed i request kept r
    not_read : (a : Asked) (m : Moment) (error : CallError) → IsPrepared i kept.nonce a m → IsNoKeyIn kept error → r ≡ refusals.Failed error
        → RefusesRenamed i request kept r
    not_taken : (a : Asked) (m : Moment) (e : InitialExchange) (terms : Terms) → IsPrepared i kept.nonce a m → IsRead kept a e → AreTerms i terms
        → TakesNot terms e m request i.message r → RefusesRenamed i request kept r

module _ (t : InitialTypes) (checksums : EncodingOf Checksum) (tickets : EncodingOf TicketInner) (parts : EncodingOf EncKdcRepPart) where
  abbrev pub IsRenamedOutcome : Inputs → List ℕ → ExchangeRecord → Result Told Refusal → Type 0
  IsRenamedOutcome i request kept (Ok told) = IsRenamedTold t checksums tickets parts i request kept told
  IsRenamedOutcome i request kept (Err r) = RefusesRenamed t checksums i request kept r

  pub record IsRenamedCall (i : Inputs) (request : List ℕ) (kept : ExchangeRecord) (told : FollowedRecord) (out_before out_after : List ℕ) (size status : ℕ)
      : Type 0 where
    pub outcome : Result Told Refusal
    pub is_outcome : IsRenamedOutcome i request kept outcome
    pub tells : TellsGranted outcome told out_before out_after size status
