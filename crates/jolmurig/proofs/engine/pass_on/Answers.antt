use Rattle.std.proofs.Common.{inl}
use Rattle.std.proofs.KnownBytes.{Keeps-refl}
use Rattle.jolmurig.proofs.Writes.{either, refused, written_with}
use Rattle.jolmurig.proofs.engine.pass_on.Goals as goal

pub returns-in_err-octets-2 : goal.returns-in_err-octets-2
returns-in_err-octets-2 g c = (
  c.in_ok-octets.ensures.left,
  refused _ _ _ _ c.in_err-octets-2.field-0.0 c.from_residual-in_err-octets-2.result c.from_residual-in_err-octets-2.ensures.1 (Keeps-refl _)
      (either inl (λ why. (c.in_ok-octets.octets.items, c.in_ok-octets.ensures.read, why))
      (rw c.deref.ensures.value at c.in_err-octets-2.ensures.rejected)),
)

pub returns : goal.returns
returns g c = (
  c.in_ok-octets.ensures.left,
  written_with _ _ _ _ c.in_ok-octets-2.field-0.octets.items c.in_ok-octets-2.field-0.line.items c.write_with_notes.result
      (c.in_ok-octets.octets.items, c.in_ok-octets.ensures.read, rw c.deref.ensures.value at c.in_ok-octets-2.ensures.found)
      (rw c.deref-2.ensures.value at c.write_with_notes.ensures),
)
