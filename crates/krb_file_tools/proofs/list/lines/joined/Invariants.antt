use Rattle.std.proofs.Common.{◌≡◌, take}
use Rattle.std.specs.List.{flat_map}
use Rattle.krb_file_tools.proofs.list.lines.joined.Given as goal

abbrev pub invariant-pieces : goal.invariant-pieces
invariant-pieces l = l.text.items ≡ flat_map (λ p. p.now) (take l.piece-index l.pieces)
