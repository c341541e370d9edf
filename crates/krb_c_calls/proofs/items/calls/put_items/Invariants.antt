use Rattle.std.proofs.Common.{◌≡◌, ◌++◌, take, drop}
use Rattle.std.specs.Prelude.{map}
use Rattle.krb_c_calls.specs.Items.{record_of}
use Rattle.krb_c_calls.proofs.items.calls.put_items.Given as goal

abbrev pub invariant-items : goal.invariant-items
invariant-items l = l.items ≡ map record_of (take l.n l.found) ++ drop l.n l.initial.items
