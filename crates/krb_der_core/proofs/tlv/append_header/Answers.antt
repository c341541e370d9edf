use Rattle.std.proofs.Common.{rules}
use Rattle.krb_der_core.proofs.Growth.{header_small}
use Rattle.krb_der_core.proofs.tlv.append_header.Goals as goal

pub returns-then-n-lt128-clause-ok : goal.returns-then-n-lt128-clause-ok
returns-then-n-lt128-clause-ok c = rw (← header_small c.args.tag c.args.n c.if-n-lt128.true) (search rules)
