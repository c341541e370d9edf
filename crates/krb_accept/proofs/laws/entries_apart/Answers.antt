use Rattle.krb_accept.proofs.EntryOctets.{apart}
use Rattle.krb_accept.proofs.laws.entries_apart.Goals as goal

pub returns : goal.returns
returns c = apart
