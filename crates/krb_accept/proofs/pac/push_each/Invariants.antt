use Rattle.std.proofs.Common.{◌≡◌, ◌++◌, ◌∷◌, take}
use Rattle.std.specs.List.{flat_map}
use Rattle.krb_accept.proofs.pac.push_each.Given as goal

abbrev pub invariant-components : goal.invariant-components
invariant-components l = l.name.items ≡ l.fn.name.items ++ flat_map (λ component. 47 ∷ component) (take l.component-index l.components)
