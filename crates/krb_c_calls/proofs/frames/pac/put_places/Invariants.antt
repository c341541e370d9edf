use Rattle.std.proofs.Common.{◌≡◌, ◌++◌, take, drop}
use Rattle.std.specs.Prelude.{map}
use Rattle.krb_c_calls.specs.Pac.{place_record}
use Rattle.krb_c_calls.proofs.frames.pac.put_places.Given as goal

abbrev pub invariant-places : goal.invariant-places
invariant-places l = l.places ≡ map (λ b. place_record b.info) (take l.n l.view) ++ drop l.n l.initial.places
