use Rattle.std.proofs.Common.{[], ◌∷◌}
use Rattle.krb_file_tools.specs.Lines.{IsEntryLine, IsListing, keytab_header}
use Rattle.krb_file_tools.proofs.list.keytab.list_of_keytab.Given as goal

abbrev pub invariant-entries : goal.invariant-entries
invariant-entries l = IsListing (keytab_header ∷ []) IsEntryLine l.yielded l.text.items
