use Rattle.std.proofs.Common.{sym, arith}
use Rattle.std.proofs.lemmas.List.{length-take-le, take_all}
use Rattle.krb_c_client.proofs.exchange.first.Goals as goal

pub slice_bounds-result-end : goal.slice_bounds-result-end
slice_bounds-result-end c = sym (length-take-le 32 c.args.octets.now (omega (arith, c.if-octets-gt-KEY_SIZE.true)))

pub returns-then-octets-gt-KEY_SIZE-clause-size : goal.returns-then-octets-gt-KEY_SIZE-clause-size
returns-then-octets-gt-KEY_SIZE-clause-size c = omega (arith, length-take-le 32 c.args.octets.now (omega (arith, c.if-octets-gt-KEY_SIZE.true)))

pub returns-else-octets-gt-KEY_SIZE-clause-octets : goal.returns-else-octets-gt-KEY_SIZE-clause-octets
returns-else-octets-gt-KEY_SIZE-clause-octets c = sym (take_all 32 c.args.octets.now c.if-octets-gt-KEY_SIZE.false)
