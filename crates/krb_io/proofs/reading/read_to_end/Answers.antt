use Rattle.std.proofs.Common.{lit≤}
use Rattle.krb_io.proofs.Transfers.{vector_read}
use Rattle.krb_io.proofs.reading.read_to_end.Goals as goal

pub returns-clause-octets : goal.returns-clause-octets
returns-clause-octets g c = vector_read 18446744073709551615 c.read_up_to.result (g.R.Read.remaining c.args.reader.now) _ (lit≤ tt) c.read_up_to.ensures.octets
