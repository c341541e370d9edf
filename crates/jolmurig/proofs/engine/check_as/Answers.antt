use Rattle.std.proofs.Common.{refl}
use Rattle.jolmurig.proofs.Writes.{written_with}
use Rattle.jolmurig.proofs.engine.check_as.Goals as goal

pub returns : goal.returns
returns g c = (
  c.in_ok-octets.ensures.left,
  written_with _ _ _ _ c.in_ok-octets.octets.items c.in_ok-notes.notes.items c.write_with_notes.result
      (c.in_ok-octets.octets.items, c.in_ok-octets.ensures.read, (rw c.deref.ensures.value at c.in_ok-notes.ensures.found, rw c.deref.ensures.value at c.in_ok-notes.ensures.warned, refl))
      (rw c.deref-2.ensures.value at c.write_with_notes.ensures),
)
