-- Answers of calls, handed on.
use Rattle.std.proofs.Common.{Option, None, Some, Result, Ok, Err, IfOk, IfErr, MatchOption}

-- what is said of an answer, said in other words
pub ok_so : {A E : Type 0} (S T : A → Type 0) → ((v : A) → S v → T v) → (r : Result A E) → IfOk r S → IfOk r T
ok_so S T f (Ok v) h = f v h
ok_so S T f (Err e) h = h

pub err_so : {A E : Type 0} (S T : E → Type 0) → ((e : E) → S e → T e) → (r : Result A E) → IfErr r S → IfErr r T
err_so S T f (Ok v) h = h
err_so S T f (Err e) h = f e h

pub found_so : {A E : Type 0} (N M : Type 0) (S T : A → Type 0) → (N → M) → ((v : A) → S v → T v) → (r : Result (Option A) E)
    → IfOk r (λ found. MatchOption found N S) → IfOk r (λ found. MatchOption found M T)
found_so N M S T none some (Ok None) h = none h
found_so N M S T none some (Ok (Some v)) h = some v h
found_so N M S T none some (Err e) h = h
