use Rattle.std.proofs.Common.{inr}
use Rattle.std.proofs.KnownBytes.{Keeps-refl}
use Rattle.jolmurig.proofs.Writes.{refused}
use Rattle.jolmurig.proofs.engine.list.Goals as goal

pub returns-in_err-text : goal.returns-in_err-text
returns-in_err-text g c = (
  c.in_ok-octets.ensures.left,
  refused _ _ _ _ c.in_err-text.field-0.0 c.from_residual-in_err-text.result c.from_residual-in_err-text.ensures.1 (Keeps-refl _)
      (inr (c.in_ok-octets.octets.items, c.in_ok-octets.ensures.read, rw c.deref.ensures.value at c.in_err-text.ensures.rejected)),
)
