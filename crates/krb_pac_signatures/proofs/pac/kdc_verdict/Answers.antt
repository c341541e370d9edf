use Rattle.krb_pac_signatures.proofs.Kdc.{both_there}
use Rattle.krb_pac_signatures.proofs.pac.kdc_verdict.Goals as goal

pub returns : goal.returns
returns c = both_there c.args.signatures.now.kdc c.args.signatures.now.server c.in-Some.server c.in-Some-kdc.kdc c.args.key.now c.signature.result.now c.verify.result
    c.in-Some.ensures c.in-Some-kdc.ensures c.signature.ensures.octets c.verify.ensures
