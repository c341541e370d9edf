use Rattle.krbtool_engine.proofs.Prefixes.{HasPrefix}
use Rattle.krbtool_engine.proofs.engine.write_prefix.Given as goal

abbrev pub invariant-loop : goal.invariant-loop
invariant-loop g l = HasPrefix (g.W.Write.contents l.fn.output) (g.W.Write.contents l.output) l.fn.octets l.rest
