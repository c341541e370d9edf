use Rattle.std.proofs.Common.{◌≡◌, length}
use Rattle.krb_files.specs.Laws.{IsOctets}
use Rattle.krb_files.specs.KeytabReading.{shown_entries}
use Rattle.krb_files.proofs.keytab.view.next_entry.Given as goal

abbrev pub invariant-records : goal.invariant-records
invariant-records l = (shown_entries l.octets ≡ shown_entries l.rest) × IsOctets l.rest

abbrev pub decreases-records : goal.decreases-records
decreases-records l = length l.rest
