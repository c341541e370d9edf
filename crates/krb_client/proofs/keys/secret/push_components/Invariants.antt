use Rattle.std.proofs.Common.{◌≡◌, ◌++◌, take}
use Rattle.std.specs.List.{flat_map}
use Rattle.krb_client.proofs.keys.secret.push_components.Given as goal

abbrev pub invariant-loop-component : goal.invariant-loop-component
invariant-loop-component l = l.salt.items ≡ l.fn.salt.items ++ flat_map (λ part. part) (take l.component-index l.components)
