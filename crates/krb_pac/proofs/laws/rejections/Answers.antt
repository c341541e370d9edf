use Rattle.krb_pac.proofs.Entries.{no_pac}
use Rattle.krb_pac.proofs.OneRejection.{one_rejection}
use Rattle.krb_pac.proofs.laws.rejections.Goals as goal

pub returns-clause-no_pac : goal.returns-clause-no_pac
returns-clause-no_pac c = no_pac

pub returns-clause-one : goal.returns-clause-one
returns-clause-one c = one_rejection
