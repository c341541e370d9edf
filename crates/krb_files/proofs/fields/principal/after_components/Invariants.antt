use Rattle.krb_files.specs.Lists.{IsReadUpTo}
use Rattle.krb_files.specs.FieldReading.{counted_at, size_of}
use Rattle.krb_files.proofs.fields.principal.after_components.Given as goal

abbrev pub invariant-components : goal.invariant-components
invariant-components l = IsReadUpTo (counted_at (size_of l.size)) l.count l.octets l.counter l.rest
