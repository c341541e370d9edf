use Rattle.std.proofs.Common.{◌≡◌, map, take}
use Rattle.krb_c_negotiation.proofs.mechanisms.all_arcs.Given as goal

abbrev pub invariant-identifiers : goal.invariant-identifiers
invariant-identifiers l = map (λ m. m.items) l.all.items ≡ take l.identifier-index l.list
