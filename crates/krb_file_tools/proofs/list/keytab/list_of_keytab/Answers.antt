use Rattle.std.proofs.Common.{◌∙◌, ap, List, [], ◌∷◌, ◌++◌, ℕ, arith}
use Rattle.krb_file_tools.specs.Lines.{IsEntryLine, keytab_header}
use Rattle.krb_file_tools.proofs.Listing.{listing_more, listing_none, read_apart}
use Rattle.krb_file_tools.proofs.list.keytab.list_of_keytab.Goals as goal

pub returns-in_err-keytab-clause-reads : goal.returns-in_err-keytab-clause-reads
returns-in_err-keytab-clause-reads c = λ entries is. absurd (read_apart entries c.in_err-keytab.field-0.0 (c.in_err-keytab.ensures.only entries is))

pub entries-init : goal.entries-init
entries-init c =
    listing_none IsEntryLine (keytab_header ∷ []) c.push_line.new.out.items (grind arith) (c.in_ok-push_line.ensures ∙ ap (λ (o : List ℕ). o ++ keytab_header ++ 10 ∷ []) c.new-text.ensures.items)

pub entries-preserved : goal.entries-preserved
entries-preserved c =
    listing_more IsEntryLine (keytab_header ∷ []) c.entries.yielded c.entries.text.items c.in-Some.entry c.in_ok-line.line.items c.push_line-in-entries.new.out.items
    c.entries.invariant c.in_ok-line.ensures.line c.in_ok-line.ensures.printable
    (c.in_ok-push_line-2.ensures ∙ ap (λ (l : List ℕ). c.entries.text.items ++ l ++ 10 ∷ []) c.deref.ensures.value)
