use Rattle.std.proofs.Common.{◌≡◌, ◌++◌}
use Rattle.krb_pac_contents.specs.Sids.{dashed}
use Rattle.krb_pac_contents.proofs.text.sids.push_dashed.Given as goal

-- what is written and the text of the numbers that are left are the whole
abbrev pub invariant-loop-number : goal.invariant-loop-number
invariant-loop-number l =
    (goal.iterator-loop-number).can_next l.number-iterator ×
    (goal.iterator-loop-number).is_finite l.number-iterator ×
    (l.text.bytes.items ++ dashed l.number-iterator ≡ l.initial.text.bytes.items ++ dashed l.initial.number-iterator)
