use Rattle.std.proofs.Common.{◌≡◌}
use Rattle.krb_files.specs.Principals.{principal_of}
use Rattle.krb_files.specs.Find.{better, found_entry}
use Rattle.krb_files.proofs.keytab.view.KeytabView.find.Given as goal

abbrev pub invariant-entries : goal.invariant-entries
invariant-entries l =
    (goal.iterator-entries).can_next l.entry-iterator ×
    (goal.iterator-entries).is_finite l.entry-iterator ×
    (better l.best (found_entry (principal_of l.principal) l.etype l.kvno l.entry-iterator) ≡ found_entry (principal_of l.principal) l.etype l.kvno l.self)
