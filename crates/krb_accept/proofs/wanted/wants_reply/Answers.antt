use Rattle.std.proofs.Common.{refl}
use Rattle.krb_accept.proofs.Wanting.{by_flags, by_options}
use Rattle.krb_accept.proofs.wanted.wants_reply.Goals as goal

pub returns-in-Some : goal.returns-in-Some
returns-in-Some c = by_flags c.args.accepted.now c.args.flags c.in-Some._octets.now _ refl c.in-Some.ensures

pub returns-in-None : goal.returns-in-None
returns-in-None c = by_options c.args.accepted.now c.args.flags c.is_set.result c.is_set.ensures c.in-None.ensures
