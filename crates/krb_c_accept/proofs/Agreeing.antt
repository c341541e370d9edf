-- Whether options are such, where all else is so and the replay cache decides.
use Rattle.std.proofs.Common.{ℕ, ◌<◌, Bool, true, false, MatchBool, List}
use Rattle.krb_c_accept.specs.Options.{AgreeOnAddress, AgreeOnBindings, AgreeOnPacs, AreOptions, IsSince}
use Rattle.krb_c_accept.specs.declared.records.AcceptorRecord.{AcceptorRecord}

pub by_since : (a : AcceptorRecord) (bindings address : List ℕ) (whole : Bool) → a.options < 2048 → AgreeOnPacs a.options → AgreeOnBindings a.options bindings
    → AgreeOnAddress a.options address → MatchBool whole (IsSince a.options a.whole_since) (IsSince a.options a.whole_since → ⊥)
    → MatchBool whole (AreOptions a bindings address) (AreOptions a bindings address → ⊥)
by_since a bindings address true known pacs of_bindings of_address is =
    record { known = known; pacs = pacs; bindings_agree = of_bindings; address_agrees = of_address; since = is }
by_since a bindings address false known pacs of_bindings of_address is = λ are. is are.since
