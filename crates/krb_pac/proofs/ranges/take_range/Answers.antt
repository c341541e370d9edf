use Rattle.std.proofs.Common.{◌-◌, ◌+◌, arith}
use Rattle.krb_pac.proofs.Marks.{met, taken_range}
use Rattle.krb_pac.proofs.ranges.take_range.Goals as goal

pub returns-then-contains-clause-no : goal.returns-then-contains-clause-no
returns-then-contains-clause-no c = λ _ free.
    let found = c.if-contains.ensures.cases in
    met c.args.marks.now c.args.at (c.args.at + c.args.size - c.args.at) c.args.size found.0 (omega arith) found.1 found.2 free

pub returns-clause-yes : goal.returns-clause-yes
returns-clause-yes c = λ _.
    taken_range c.args.marks.now c.fill.new.self c.args.at (c.args.at + c.args.size - c.args.at) c.args.size (omega arith) c.requires (c.fill.ensures.after (λ y e. e)) c.if-contains.ensures.cases
