use Rattle.krb_negoex.proofs.nego.NegoPart.read_part.Goals as goal

pub returns-in-Err-clause-rejected : goal.returns-in-Err-clause-rejected
returns-in-Err-clause-rejected c = c.in-Err.ensures.rejected
