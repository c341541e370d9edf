use Rattle.std.proofs.Common.{sym}
use Rattle.krb_c_accept.proofs.confirming.confirmed.Goals as goal

pub returns-clause-confirmed : goal.returns-clause-confirmed
returns-clause-confirmed c = rw (sym c.in_ok-key.ensures, sym c.from_u32-number.ensures) c.confirm_by_key.ensures.confirmed
