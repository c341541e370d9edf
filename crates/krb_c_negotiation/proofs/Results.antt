-- What holds of a result's value, and of its error, holds of what follows from it.
use Rattle.std.proofs.Common.{Result, Ok, Err}
use Rattle.std.specs.Prelude.{MatchResult}

pub both_map : {A E : Type 0} {P P' : A → Type 0} {Q Q' : E → Type 0} (r : Result A E) → ((x : A) → P x → P' x) → ((e : E) → Q e → Q' e)
    → MatchResult r P Q → MatchResult r P' Q'
both_map (Ok x) leads refuses h = leads x h
both_map (Err e) leads refuses h = refuses e h
