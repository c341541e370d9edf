use Rattle.std.proofs.Common.{take, All}
use Rattle.krb_files.specs.FieldReading.{size_of}
use Rattle.krb_files.specs.FieldWritten.{FitsCounted}
use Rattle.krb_files.proofs.fields.writing.fits_principal.Given as goal

abbrev pub invariant-components : goal.invariant-components
invariant-components l = All (λ p. FitsCounted (size_of l.size) p.now) (take l.component-index l.principal.components.now)
