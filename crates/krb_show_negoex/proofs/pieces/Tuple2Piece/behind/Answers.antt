use Rattle.krb_show_negoex.proofs.WrittenPieces.{behind_both}
use Rattle.krb_show_negoex.proofs.pieces.Tuple2Piece.behind.Goals as goal

pub returns-in-Some : goal.returns-in-Some
returns-in-Some g c =
    behind_both c.args.octets.now (g.A.Piece.written c.args.self.now.0) (g.B.Piece.written c.args.self.now.1) c.in-Some.rest.now c.behind-in-Some.result
    c.in-Some.ensures c.behind-in-Some.ensures
