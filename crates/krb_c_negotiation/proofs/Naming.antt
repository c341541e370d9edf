-- Why a side has no name of its mechanism.
use Rattle.std.proofs.Common.{◌≡◌, List, Ok, inl, inr}
use Rattle.krb_spnego.specs.declared.told.Told.{Told}
use Rattle.krb_c_calls.specs.declared.call_error.CallError.{CallError}
use Rattle.krb_c_negotiation.specs.Sides.{RefusesChosen, RefusesName, chosen_in, told_name}
use Rattle.krb_c_negotiation.specs.declared.records.NegotiationRecord.{NegotiationRecord}

pub refuses_name : (side : NegotiationRecord) (mechanisms : List Told) (m : Told) (e : CallError) → chosen_in mechanisms side.mechanism ≡ Ok m
    → RefusesName (told_name m side.name) e → RefusesChosen side mechanisms e
refuses_name side mechanisms m e chosen (inl memory) = inl memory
refuses_name side mechanisms m e chosen (inr (none, is)) = inr (inr (m, (chosen, (none, is))))
