use Rattle.std.proofs.Common.{[], refl}
use Rattle.std.proofs.KnownBytes.{Keeps-refl}
use Rattle.jolmurig.proofs.Writes.{written_with}
use Rattle.jolmurig.proofs.engine.obey.Goals as goal

pub returns-in-Ok-Help : goal.returns-in-Ok-Help
returns-in-Ok-Help g c =
    rw (c.in-Ok-Help.is, c.in-Ok-Help.field-0-is) (Keeps-refl _, written_with _ _ _ _ _ [] c.write_help.result (refl, refl) c.write_help.ensures)

pub returns-in-Ok-Version : goal.returns-in-Ok-Version
returns-in-Ok-Version g c =
    rw (c.in-Ok-Version.is, c.in-Ok-Version.field-0-is) (Keeps-refl _, written_with _ _ _ _ _ [] c.write_version.result (refl, refl) c.write_version.ensures)
