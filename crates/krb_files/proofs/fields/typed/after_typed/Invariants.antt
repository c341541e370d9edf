use Rattle.krb_files.specs.Lists.{IsReadUpTo}
use Rattle.krb_files.specs.FieldReading.{typed_at}
use Rattle.krb_files.proofs.fields.typed.after_typed.Given as goal

abbrev pub invariant-typed : goal.invariant-typed
invariant-typed l = IsReadUpTo (typed_at 4) l.count l.octets l.counter l.rest
