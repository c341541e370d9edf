-- What a call leaves to its caller.
use Rattle.std.specs.Prelude.{◌≡◌, ℕ, ◌<◌, List, Result, Ok, Err, Vec}
use Rattle.std.specs.declared.alloc.Global.{Global}
use Rattle.krb_c_calls.specs.Handing.{IsKept, IsPut}
use Rattle.krb_c_calls.specs.Statuses.{refusal_status}
use Rattle.krb_c_client.specs.Records.{broken, nothing}
use Rattle.krb_c_client.specs.declared.granted.Told.{Told}
use Rattle.krb_c_client.specs.declared.records.ExchangeRecord.{ExchangeRecord}
use Rattle.krb_c_client.specs.declared.records.FollowedRecord.{FollowedRecord}
use Rattle.krb_c_client.specs.declared.refusal.Refusal.{Refusal}
use Rattle.krb_c_client.specs.declared.refusal.Refusal.TheVariants as refusals
use Rattle.krb_c_client.specs.declared.tell.Followed.{Followed}

-- The octets are handed out, it is told what follows, and the exchange is as it is to be kept (0); or they do not fit, and the exchange is as it was (1); or the rule is
-- told that is broken (42), or nothing, and the exchange is as it was.
abbrev pub Tells : Result Followed Refusal → ExchangeRecord → ExchangeRecord → FollowedRecord → List ℕ → List ℕ → ℕ → ℕ → Type 0
Tells (Ok f) before after told out_before out_after size status =
    IsPut f.told.octets.items out_before out_after size status
    × (status ≡ 0 → (after ≡ f.exchange) × (told ≡ f.told.record))
    × (status ≡ 1 → (after ≡ before) × (told ≡ nothing))
Tells (Err (refusals.Rule rule code)) before after told out_before out_after size status =
    (status ≡ 42) × (told ≡ broken rule code) × (after ≡ before) × IsKept out_before out_after size
Tells (Err (refusals.Failed e)) before after told out_before out_after size status =
    (status ≡ refusal_status e) × (1 < status) × (told ≡ nothing) × (after ≡ before) × IsKept out_before out_after size

-- The same of a call that leaves the exchange as it is.
abbrev pub TellsGranted : Result Told Refusal → FollowedRecord → List ℕ → List ℕ → ℕ → ℕ → Type 0
TellsGranted (Ok t) told out_before out_after size status =
    IsPut t.octets.items out_before out_after size status × (status ≡ 0 → told ≡ t.record) × (status ≡ 1 → told ≡ nothing)
TellsGranted (Err (refusals.Rule rule code)) told out_before out_after size status =
    (status ≡ 42) × (told ≡ broken rule code) × IsKept out_before out_after size
TellsGranted (Err (refusals.Failed e)) told out_before out_after size status =
    (status ≡ refusal_status e) × (1 < status) × (told ≡ nothing) × IsKept out_before out_after size

-- Octets are handed out (0), or they do not fit (1); or the rule is told by which there are none (42), or nothing.
abbrev pub TellsOctets : Result (Vec ℕ Global) Refusal → ℕ → List ℕ → List ℕ → ℕ → ℕ → Type 0
TellsOctets (Ok octets) rule before after size status = IsPut octets.items before after size status × (rule ≡ 0)
TellsOctets (Err (refusals.Rule number code)) rule before after size status = (status ≡ 42) × (rule ≡ number) × IsKept before after size
TellsOctets (Err (refusals.Failed e)) rule before after size status =
    (status ≡ refusal_status e) × (1 < status) × (rule ≡ 0) × IsKept before after size
