use Rattle.std.proofs.Common.{arith, length, sym}
use Rattle.std.proofs.lemmas.List.Sums.{position_or_len_is}
use Rattle.jolmurig.specs.Passwords.{is_line_end}
use Rattle.jolmurig.proofs.passwords.line_length.Goals as goal

pub returns-then-is_line_end-clause-length : goal.returns-then-is_line_end-clause-length
returns-then-is_line_end-clause-length c =
    sym (position_or_len_is is_line_end c.args.octets.now c.loop-index.index 0 (omega (arith, c.loop-index-test.true)) c.loop-index.invariant
    (λ within. sym c.if-is_line_end.ensures))

pub returns-clause-length : goal.returns-clause-length
returns-clause-length c =
    sym (position_or_len_is is_line_end c.args.octets.now (length c.args.octets.now) 0 (omega arith)
    (λ k before. c.loop-index.invariant k (omega (arith, before, c.loop-index-test.false))) (λ within. absurd (omega (arith, within))))
