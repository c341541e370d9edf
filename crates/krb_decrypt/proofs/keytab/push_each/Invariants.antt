use Rattle.std.proofs.Common.{◌≡◌, ◌++◌, ◌∷◌, map, take}
use Rattle.std.specs.List.{flat_map}
use Rattle.krb_decrypt.proofs.keytab.push_each.Given as goal

abbrev pub invariant-components : goal.invariant-components
invariant-components l = l.name.items ≡ l.fn.name.items ++ flat_map (λ c. 47 ∷ c) (map (λ p. p.now) (take l.component-index l.components))
