use Rattle.krb_show_negoex.proofs.pieces.U64Piece.behind.Goals as goal

pub returns : goal.returns
returns c = rw (c.to_le_bytes.ensures) at c.behind.ensures
