use Rattle.std.proofs.Common.{sym, subst}
use Rattle.std.specs.Io.KnownBytes.{Consumes}
use Rattle.krb_types.proofs.OneReading.{read_so}
use Rattle.krb_types.proofs.lsap.token.LsapTokenInfoIntegrity.decode.Goals as goal

pub returns-clause-reads : goal.returns-clause-reads
returns-clause-reads g c = λ r rest h e.
    read_so r c.record_of.result rest _ _ h c.record_of.ensures.valid (subst (Consumes _ _) (sym c.record_of.ensures.octets) c.in_ok-read_exact.ensures.octets) e
