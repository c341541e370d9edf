use Rattle.std.proofs.Common.{drop}
use Rattle.krb_show_negoex.specs.Negoex.{values_octets}
use Rattle.krb_show_negoex.proofs.WrittenPieces.{IsLeft}
use Rattle.krb_show_negoex.proofs.pieces.ValuesPiece.behind.Given as goal

abbrev pub invariant-loop-n : goal.invariant-loop-n
invariant-loop-n l = IsLeft l.octets (values_octets l.extensions) l.rest (values_octets (drop l.n l.extensions))
