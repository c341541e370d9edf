use Rattle.krb_show_negoex.proofs.pieces.LowPiece.behind.Goals as goal

pub returns : goal.returns
returns c = rw (c.to_le_bytes-all.ensures) at c.behind.ensures
