use Rattle.std.proofs.Common.{◌≡◌, ◌<◌, ℕ, get_or}
use Rattle.std.specs.Char.{to_ascii_lowercase}
use Rattle.krb_kdc_proxy.proofs.request.is_same.Given as goal

abbrev pub invariant-loop-i : goal.invariant-loop-i
invariant-loop-i l = (j : ℕ) → j < l.i → to_ascii_lowercase (get_or l.first j 0) ≡ to_ascii_lowercase (get_or l.second j 0)
