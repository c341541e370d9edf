use Rattle.std.proofs.Common.{List, [], ℕ, Bor}
use Rattle.krb_files.specs.FieldReading.{size_of}
use Rattle.krb_files.specs.FieldWritten.{FitsCounted}
use Rattle.krb_files.proofs.Components.{component_fits}
use Rattle.krb_files.proofs.Kept.{begins_longer, if_error_any}
use Rattle.krb_files.proofs.fields.writing.push_principal.Goals as goal

pub push_counted-requires-in-components : goal.push_counted-requires-in-components
push_counted-requires-in-components c =
    component_fits (FitsCounted (size_of c.args.size)) (λ (p : Bor (List ℕ)). p.now) c.args.principal.now.components.now c.components.component-index (record { ref_ptr = (0, 0); now = [] }) c.components-test.true c.requires.components

pub returns-in_err-push_counted-2-clause-kept : goal.returns-in_err-push_counted-2-clause-kept
returns-in_err-push_counted-2-clause-kept c =
    if_error_any c.from_residual-in_err-push_counted-2.result (begins_longer _ _ _ _ c.components.invariant c.in_err-push_counted-2.ensures.kept)
