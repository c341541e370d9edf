-- Whole runs of calls, the exchange handed from each to the next (krb_client_initial and krb_client_ticket of krb.h).
use Rattle.std.specs.Prelude.{ℕ, List, ◌&&◌, ◌==◌, if◌then◌else◌}
use Rattle.krb_client.specs.Runs.{Runs}
use Rattle.krb_client.specs.Types.{InitialTypes, ServiceTypes}
use Rattle.krb_der_core.specs.declared.der.DerEncode.{Ghosts as EncodingOf}
use Rattle.krb_messages.specs.declared.messages.replies.EncKdcRepPart.{EncKdcRepPart}
use Rattle.krb_types.specs.declared.data_types.tickets.TicketInner.{TicketInner}
use Rattle.krb_c_client.specs.Initial.{IsInitialCall}
use Rattle.krb_c_client.specs.Inputs.{Inputs}
use Rattle.krb_c_client.specs.Means.{Lent}
use Rattle.krb_c_client.specs.Service.{IsTicketCall}
use Rattle.krb_c_client.specs.declared.records.ExchangeRecord.{ExchangeRecord}
use Rattle.krb_c_client.specs.declared.records.FollowedRecord.{FollowedRecord}

-- what a call answers, and the caller's octets before it and after it
pub record Answered : Type 0 where
  pub told : FollowedRecord
  pub out_before : List ℕ
  pub out_after : List ℕ
  pub size : ℕ
  pub status : ℕ

-- 1 where a request is handed out (KRB_DONE, KRB_FOLLOWS_SENDS), and else 0
abbrev pub requests_told : ℕ → FollowedRecord → ℕ
requests_told status told = if status == 0 && told.follows == 1 then 1 else 0

abbrev pub requests_in : Answered → ℕ
requests_in a = requests_told a.status a.told

-- one call for a first ticket: what it is passed, and what it answers
pub record FirstCall : Type 0 where
  pub inputs : Inputs
  pub password : List ℕ
  pub keytab : List ℕ
  pub answered : Answered

-- one call for a further ticket
pub record FurtherCall : Type 0 where
  pub inputs : Inputs
  pub lent : Lent
  pub answered : Answered

abbrev pub first_requests : FirstCall → ℕ
first_requests call = requests_in call.answered

abbrev pub further_requests : FurtherCall → ℕ
further_requests call = requests_in call.answered

module _ (tickets : EncodingOf TicketInner) (parts : EncodingOf EncKdcRepPart) where
  abbrev pub IsFirstCall : InitialTypes → ExchangeRecord → FirstCall → ExchangeRecord → Type 0
  IsFirstCall t before call after =
      IsInitialCall t tickets parts call.inputs call.password call.keytab before after call.answered.told call.answered.out_before call.answered.out_after
      call.answered.size call.answered.status

  abbrev pub IsFurtherCall : ServiceTypes → ExchangeRecord → FurtherCall → ExchangeRecord → Type 0
  IsFurtherCall t before call after =
      IsTicketCall t tickets parts call.inputs call.lent before after call.answered.told call.answered.out_before call.answered.out_after call.answered.size
      call.answered.status

  abbrev pub FirstCalls : InitialTypes → ExchangeRecord → List FirstCall → ExchangeRecord → Type 0
  FirstCalls t before calls after = Runs (IsFirstCall t) before calls after

  abbrev pub FurtherCalls : ServiceTypes → ExchangeRecord → List FurtherCall → ExchangeRecord → Type 0
  FurtherCalls t before calls after = Runs (IsFurtherCall t) before calls after
