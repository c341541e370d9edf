use Rattle.std.proofs.Common.{◌≡◌, take, map}
use Rattle.std.specs.List.{AllByRecursion}
use Rattle.krb_files.specs.KeytabWritten.{FitsEntry, entry_from, keytab_octets}
use Rattle.krb_files.proofs.keytab.writing.write.Given as goal

abbrev pub invariant-entries : goal.invariant-entries
invariant-entries l = (l.out.items ≡ keytab_octets (map entry_from (take l.entry-index l.entries))) × AllByRecursion FitsEntry (map entry_from (take l.entry-index l.entries))
