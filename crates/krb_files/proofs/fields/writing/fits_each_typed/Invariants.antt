use Rattle.std.proofs.Common.{take, All}
use Rattle.krb_files.specs.FieldReading.{size_of}
use Rattle.krb_files.specs.FieldWritten.{FitsTyped}
use Rattle.krb_files.proofs.fields.writing.fits_each_typed.Given as goal

abbrev pub invariant-typed : goal.invariant-typed
invariant-typed l = All (FitsTyped (size_of l.size)) (take l.typed-index l.list)
