use Rattle.std.proofs.Common.{drop}
use Rattle.std.specs.List.{flat_map}
use Rattle.uuid.specs.Parts.{swap_fields}
use Rattle.krb_show_negoex.proofs.WrittenPieces.{IsLeft}
use Rattle.krb_show_negoex.proofs.pieces.SchemesPiece.behind.Given as goal

abbrev pub invariant-loop-n : goal.invariant-loop-n
invariant-loop-n l = IsLeft l.octets (flat_map swap_fields l.schemes) l.rest (flat_map swap_fields (drop l.n l.schemes))
