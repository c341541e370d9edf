use Rattle.std.proofs.KnownBytes.{Keeps-refl}
use Rattle.jolmurig.proofs.Writes.{refused}
use Rattle.jolmurig.proofs.engine.show.Goals as goal

pub returns-in_err-made : goal.returns-in_err-made
returns-in_err-made g c = (
  c.in_err-made.ensures.left,
  refused _ _ _ _ c.in_err-made.field-0.0 c.from_residual.result c.from_residual.ensures.1 (Keeps-refl _) c.in_err-made.ensures.rejected,
)
