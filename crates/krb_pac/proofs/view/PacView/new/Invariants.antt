use Rattle.std.proofs.Common.{ℕ, ◌+◌, ◌*◌, ◌<◌}
use Rattle.krb_pac.specs.Layout.{BufferAt}
use Rattle.krb_pac.specs.View.{buffer_of}
use Rattle.krb_pac.proofs.view.PacView.new.Given as goal

abbrev pub invariant-entries : goal.invariant-entries
invariant-entries l = (k : ℕ) → k < l.n → BufferAt l.octets (8 + 16 * k) (buffer_of l.octets (8 + 16 * k))
