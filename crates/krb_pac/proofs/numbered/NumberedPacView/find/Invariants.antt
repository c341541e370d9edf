use Rattle.std.proofs.Common.{◌≡◌}
use Rattle.krb_pac.specs.Numbered.{first_numbered}
use Rattle.krb_pac.proofs.numbered.NumberedPacView.find.Given as goal

abbrev pub invariant-loop-buffer : goal.invariant-loop-buffer
invariant-loop-buffer l =
    (goal.iterator-loop-buffer).can_next l.buffer-iterator ×
    (goal.iterator-loop-buffer).is_finite l.buffer-iterator ×
    (first_numbered l.ul_type l.self ≡ first_numbered l.ul_type l.buffer-iterator)
