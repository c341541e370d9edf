use Rattle.std.proofs.Common.{length}
use Rattle.krb_files.specs.Alls.{IsReadTo}
use Rattle.krb_files.specs.Laws.{IsOctets}
use Rattle.krb_files.specs.FieldReading.{is_nil}
use Rattle.krb_files.specs.CcacheReading.{credential_at}
use Rattle.krb_files.proofs.ccache.view.check_credentials.Given as goal

abbrev pub invariant-credentials : goal.invariant-credentials
invariant-credentials l = IsReadTo is_nil (credential_at l.version) l.octets l.rest × IsOctets l.rest

abbrev pub decreases-credentials : goal.decreases-credentials
decreases-credentials l = length l.rest
