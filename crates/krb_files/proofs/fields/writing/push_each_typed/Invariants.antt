use Rattle.std.proofs.Common.{◌≡◌, ◌++◌, take}
use Rattle.std.specs.List.{flat_map}
use Rattle.krb_files.specs.FieldReading.{size_of}
use Rattle.krb_files.specs.FieldWritten.{typed_octets}
use Rattle.krb_files.proofs.fields.writing.push_each_typed.Given as goal

abbrev pub invariant-typed : goal.invariant-typed
invariant-typed l = l.out.items ≡ l.fn.out.items ++ flat_map (typed_octets (size_of l.size)) (take l.typed-index l.list)
