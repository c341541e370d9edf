use Rattle.std.proofs.Common.{◌≡◌, ◌++◌, map, take}
use Rattle.krb_file_tools.specs.Principals.{after_slashes}
use Rattle.krb_show_text.specs.Text.{ArePrintable}
use Rattle.krb_file_tools.proofs.list.principal.push_after_slashes.Given as goal

abbrev pub invariant-components : goal.invariant-components
invariant-components l = record {
  text : l.out.items ≡ l.fn.out.items ++ after_slashes (map (λ p. p.now) (take l.component-index l.components));
  printable : ArePrintable (after_slashes (map (λ p. p.now) (take l.component-index l.components)));
}
