use Rattle.std.proofs.Common.{◌≡◌, ◌++◌, take}
use Rattle.krb_accept_report.specs.Texts.{listed_after}
use Rattle.krb_accept_report.proofs.written.push_more.Given as goal

abbrev pub invariant-numbers : goal.invariant-numbers
invariant-numbers l = l.out.items ≡ l.fn.out.items ++ listed_after (take l.number-index l.numbers)
