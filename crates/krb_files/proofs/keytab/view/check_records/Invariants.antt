use Rattle.std.proofs.Common.{length}
use Rattle.krb_files.specs.Alls.{IsReadTo}
use Rattle.krb_files.specs.Laws.{IsOctets}
use Rattle.krb_files.specs.KeytabReading.{is_end, record_at}
use Rattle.krb_files.proofs.keytab.view.check_records.Given as goal

abbrev pub invariant-records : goal.invariant-records
invariant-records l = IsReadTo is_end record_at l.octets l.rest × IsOctets l.rest

abbrev pub decreases-records : goal.decreases-records
decreases-records l = length l.rest
