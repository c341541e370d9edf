use Rattle.std.proofs.Common.{◌≡◌}
use Rattle.std.specs.List.{flat_map}
use Rattle.krb_decrypt.specs.KeytabKeys.{keys_of_entry}
use Rattle.krb_decrypt.proofs.keytab.keys_of_keytab.Given as goal

abbrev pub invariant-entries : goal.invariant-entries
invariant-entries l = l.keys.items ≡ flat_map keys_of_entry l.yielded
