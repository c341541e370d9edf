use Rattle.std.proofs.Common.{◌≡◌, ◌+◌, drop}
use Rattle.jolmurig.proofs.KeyLists.{Continues}
use Rattle.jolmurig.proofs.keys.keys_of_sources.Given as goal

abbrev pub invariant-sources : goal.invariant-sources
invariant-sources g l =
    Continues (g.F.Files.gives l.files) l.number (drop l.source-index l.sources) l.sources l.keys.items × (l.number ≡ 1 + l.source-index)
