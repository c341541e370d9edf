use Rattle.krb_c_accept.proofs.reply.is_framed.Goals as goal

pub returns-in-None : goal.returns-in-None
returns-in-None c = λ framed. c.in-None.ensures framed.0 framed.1
