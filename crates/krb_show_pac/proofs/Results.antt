-- What holds of the results of calls.
use Rattle.std.proofs.Common.{Result, Ok, Err, Option, Some, None}
use Rattle.std.specs.Prelude.{IfOk, OnOk, MatchOption}

-- of a value that is found or not, from what is known of either
pub found_or : {A E P Q : Type 0} {F G : A → Type 0} (r : Result (Option A) E) → (P → Q) → ((a : A) → F a → G a) → IfOk r (λ o. MatchOption o P F)
    → IfOk r (λ o. MatchOption o Q G)
found_or (Ok (Some a)) p f h = f a h
found_or (Ok None) p f h = p h
found_or (Err e) p f h = h

-- where a call has succeeded
pub on_ok : {T E P Q : Type 0} (r : Result T E) → (P → Q) → OnOk r P → OnOk r Q
on_ok (Ok x) f p = f p
on_ok (Err e) f p = p
