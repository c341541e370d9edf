use Rattle.std.proofs.Common.{◌≡◌, map, take}
use Rattle.krb_show.proofs.rows.names.copies_of.Given as goal

abbrev pub invariant-loop-component : goal.invariant-loop-component
invariant-loop-component l = map (λ c. c.items) l.copies.items ≡ map (λ c. c.now) (take l.component-index l.components)
