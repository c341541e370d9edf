use Rattle.std.proofs.Common.{length}
use Rattle.krb_files.specs.Alls.{IsReadTo}
use Rattle.krb_files.specs.Laws.{IsOctets}
use Rattle.krb_files.specs.FieldReading.{is_nil, typed_at}
use Rattle.krb_files.proofs.ccache.view.check_fields.Given as goal

abbrev pub invariant-fields : goal.invariant-fields
invariant-fields l = IsReadTo is_nil (typed_at 2) l.octets l.rest × IsOctets l.rest

abbrev pub decreases-fields : goal.decreases-fields
decreases-fields l = length l.rest
