use Rattle.krb_der.proofs.Streams.{reads_prefix, reports_early_end}
use Rattle.krb_der.proofs.stream.from_reader.Goals as goal

pub returns-clause-reads : goal.returns-clause-reads
returns-clause-reads g c = reads_prefix g.T.DerEncode.is_value g.T.DerEncode.enc g.T.DerEncode.first g.T.DerEncode.is_element g.T.DerEncode.one_value _ _ c.read_prefix.result c.read_prefix.ensures.valid c.read_prefix.ensures.found c.read_prefix.ensures.rejected

pub returns-clause-cut : goal.returns-clause-cut
returns-clause-cut g c = reports_early_end g.T.DerEncode.is_value g.T.DerEncode.enc g.T.DerEncode.first g.T.DerEncode.is_element g.T.DerEncode.one_value _ _ c.read_prefix.result c.read_prefix.ensures.valid c.read_prefix.ensures.found c.read_prefix.ensures.rejected
