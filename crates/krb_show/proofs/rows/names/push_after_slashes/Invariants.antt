use Rattle.std.proofs.Common.{◌≡◌, ◌++◌, map, take}
use Rattle.krb_show.specs.NameTexts.{after_slashes}
use Rattle.krb_show.proofs.rows.names.push_after_slashes.Given as goal

abbrev pub invariant-loop-component : goal.invariant-loop-component
invariant-loop-component l = l.out.items ≡ l.fn.out.items ++ after_slashes (map (λ c. c.now) (take l.component-index l.components))
