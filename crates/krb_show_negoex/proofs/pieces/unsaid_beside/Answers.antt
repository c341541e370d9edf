use Rattle.krb_show_negoex.proofs.WrittenPieces.{none_said}
use Rattle.krb_show_negoex.proofs.pieces.unsaid_beside.Goals as goal

pub returns-in-None : goal.returns-in-None
returns-in-None g c = none_said c.args.octets.now (g.P.Piece.written c.args.piece.now) c.behind.result c.behind.ensures c.in-None.is
