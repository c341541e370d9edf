use Rattle.krb_show_negoex.proofs.pieces.UuidPiece.behind.Goals as goal

pub returns : goal.returns
returns c = rw (c.to_bytes_le.ensures) at c.behind.ensures
