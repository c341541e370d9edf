use Rattle.krb_c_calls.proofs.frames.making.init_made.Goals as goal

pub returns : goal.returns
returns c = rw c.in_ok-made.ensures at c.encoding.ensures
