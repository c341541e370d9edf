-- What the turn of a message says of the exchange.
use Rattle.std.proofs.Common.{◌≡◌, ◌≢◌, ℕ, List, [], inl, inr}
use Rattle.krb_c_client.specs.Turns.{HasBegun, IsTurn}
use Rattle.krb_c_client.specs.declared.records.ExchangeRecord.{ExchangeRecord}

pub to_begin : (may_begin : Type 0) (r : ExchangeRecord) (message : List ℕ) → IsTurn may_begin r message → message ≡ [] → may_begin
to_begin may_begin r message (inl begins) absent = begins.1
to_begin may_begin r message (inr goes_on) absent = absurd (goes_on.0 absent)

pub to_go_on : (may_begin : Type 0) (r : ExchangeRecord) (message : List ℕ) → IsTurn may_begin r message → message ≢ [] → HasBegun r
to_go_on may_begin r message (inl begins) there = absurd (there begins.0)
to_go_on may_begin r message (inr goes_on) there = goes_on.1
