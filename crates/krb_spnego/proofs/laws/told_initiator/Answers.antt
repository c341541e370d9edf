use Rattle.krb_spnego.proofs.Encodings.{reply}
use Rattle.krb_spnego.proofs.Retold.{initiator_told}
use Rattle.krb_spnego.proofs.laws.told_initiator.Goals as goal

pub returns : goal.returns
returns c = λ offering. initiator_told reply c.initiator_is_justified.ensures.run offering
