use Rattle.std.proofs.Common.{◌≡◌, take}
use Rattle.krb_build.proofs.messages.requests.integers_of.Given as goal

-- the integers so far are there
abbrev pub invariant-loop-number : goal.invariant-loop-number
invariant-loop-number l = l.integers.items ≡ take l.number-index l.numbers
