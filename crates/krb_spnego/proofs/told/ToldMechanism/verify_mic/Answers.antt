use Rattle.krb_spnego.proofs.Verifying.{holds_by}
use Rattle.krb_spnego.proofs.told.ToldMechanism.verify_mic.Goals as goal

pub returns-in-Some : goal.returns-in-Some
returns-in-Some c = holds_by c.args.self.now c.in-Some.verified c.args.text.now c.args.mic.now c.is_of.result c.in-Some.is c.is_of.ensures
