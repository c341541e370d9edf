use Rattle.krb_spnego.proofs.Encodings.{list, offer, reply}
use Rattle.krb_spnego.proofs.Retold.{acceptor_told}
use Rattle.krb_spnego.proofs.laws.told_acceptor.Goals as goal

pub returns : goal.returns
returns c = λ mechanisms received. acceptor_told offer list reply c.acceptor_is_justified.ensures.run mechanisms received
