use Rattle.krb_show_negoex.proofs.pieces.MessageHeaderPiece.behind.Goals as goal

pub returns : goal.returns
returns c = rw (c.from-kind.ensures) at c.behind.ensures
