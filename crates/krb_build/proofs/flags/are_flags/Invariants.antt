use Rattle.std.proofs.Common.{ℕ, ◌<◌, slice_index_or}
use Rattle.krb_build.proofs.flags.are_flags.Given as goal

-- each so far is the number of a flag
abbrev pub invariant-loop-number : goal.invariant-loop-number
invariant-loop-number l = (k d : ℕ) → k < l.number-index → slice_index_or l.numbers k d < 32
