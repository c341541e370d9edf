-- What holds of a result's value holds of what follows from it.
use Rattle.std.proofs.Common.{Result, Ok, Err, IfOk, IfErr}

pub ok_map : {A E : Type 0} {P Q : A → Type 0} (r : Result A E) → ((x : A) → P x → Q x) → IfOk r P → IfOk r Q
ok_map (Ok x) leads h = leads x h
ok_map (Err e) leads h = h

pub err_map : {A E : Type 0} {P Q : E → Type 0} (r : Result A E) → ((e : E) → P e → Q e) → IfErr r P → IfErr r Q
err_map (Ok x) leads h = h
err_map (Err e) leads h = leads e h
