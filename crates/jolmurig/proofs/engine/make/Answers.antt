use Rattle.std.proofs.Common.{inl}
use Rattle.std.proofs.KnownBytes.{Keeps-refl}
use Rattle.jolmurig.proofs.Writes.{of_error}
use Rattle.jolmurig.proofs.engine.make.Goals as goal

pub returns-in_err-prepared-clause-rejected : goal.returns-in_err-prepared-clause-rejected
returns-in_err-prepared-clause-rejected g c =
    of_error _ c.in_err-prepared.field-0.0 c.from_residual.result c.from_residual.ensures.1 (inl (Keeps-refl _, c.in_err-prepared.ensures.rejected))
