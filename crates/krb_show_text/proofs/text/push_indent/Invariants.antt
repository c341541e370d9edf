use Rattle.std.proofs.Common.{◌≡◌, ◌++◌}
use Rattle.krb_show_text.specs.Text.{indent}
use Rattle.krb_show_text.proofs.text.push_indent.Given as goal

abbrev pub invariant-loop-level : goal.invariant-loop-level
invariant-loop-level l = l.out.items ≡ l.fn.out.items ++ indent l._level
