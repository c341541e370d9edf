use Rattle.std.proofs.Common.{◌+◌, ◌*◌, ◌^◌, ◌≤◌, drop, length}
use Rattle.krb_show_negoex.specs.Negoex.{heads_octets}
use Rattle.krb_show_negoex.proofs.WrittenPieces.{IsLeft}
use Rattle.krb_show_negoex.proofs.pieces.HeadsPiece.behind.Given as goal

abbrev pub invariant-loop-n : goal.invariant-loop-n
invariant-loop-n l =
    IsLeft l.octets (heads_octets (96 + 16 * l.self.schemes + 12 * length l.extensions) l.extensions) l.rest (heads_octets l.offset (drop l.n l.extensions))
    × (l.offset ≤ 96 + 28 * 2 ^ 64 + l.n * 2 ^ 63)
