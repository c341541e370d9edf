use Rattle.std.proofs.Common.{◌≡◌, map, take}
use Rattle.krb_decrypt.specs.Salts.{default_salt}
use Rattle.krb_decrypt.proofs.salts.default_salt.Given as goal

abbrev pub invariant-loop-component : goal.invariant-loop-component
invariant-loop-component l = l.salt.items ≡ default_salt l.realm (map (λ c. c.items) (take l.component-index l.components))
