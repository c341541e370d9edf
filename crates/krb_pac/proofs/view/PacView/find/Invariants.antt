use Rattle.std.proofs.Common.{◌≡◌}
use Rattle.krb_pac.specs.View.{first_of}
use Rattle.krb_pac.proofs.view.PacView.find.Given as goal

abbrev pub invariant-loop-buffer : goal.invariant-loop-buffer
invariant-loop-buffer l =
    (goal.iterator-loop-buffer).can_next l.buffer-iterator ×
    (goal.iterator-loop-buffer).is_finite l.buffer-iterator ×
    (first_of l.ul_type l.self ≡ first_of l.ul_type l.buffer-iterator)
