use Rattle.std.proofs.Common.{◌≡◌, ℕ, ◌<◌, false, get_or}
use Rattle.jolmurig.specs.Passwords.{is_line_end}
use Rattle.jolmurig.proofs.passwords.line_length.Given as goal

abbrev pub invariant-loop-index : goal.invariant-loop-index
invariant-loop-index l = (k : ℕ) → k < l.index → is_line_end (get_or l.octets k 0) ≡ false
