use Rattle.std.proofs.Common.{◌≡◌, ◌++◌, take}
use Rattle.std.specs.String.{string_bytes}
use Rattle.krb_types.specs.Principals.{after_slashes}
use Rattle.krb_types.proofs.view.principals.push_after_slashes.Given as goal

abbrev pub invariant-loop-component : goal.invariant-loop-component
invariant-loop-component l = string_bytes l.out ≡ string_bytes l.fn.out ++ after_slashes (take l.component-index l.components)
