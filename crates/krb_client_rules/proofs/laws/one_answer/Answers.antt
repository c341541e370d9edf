use Rattle.krb_client_rules.proofs.InOrder.{not_both, one_first}
use Rattle.krb_client_rules.specs.PartRules.{PartRule, part_order}
use Rattle.krb_client_rules.specs.ReplyRules.{ReplyRule, reply_order}
use Rattle.krb_client_rules.proofs.laws.one_answer.Goals as goal

pub returns-clause-expected : goal.returns-clause-expected
returns-clause-expected c = λ a initial etype m broken kept first. not_both (ReplyRule a initial etype m) reply_order broken kept first

pub returns-clause-unexpected : goal.returns-clause-unexpected
returns-clause-unexpected c = λ a initial etype m one other first second. one_first (ReplyRule a initial etype m) reply_order one other first second

pub returns-clause-answers : goal.returns-clause-answers
returns-clause-answers c = λ a clock p broken kept first. not_both (PartRule a clock p) part_order broken kept first

pub returns-clause-no_answer : goal.returns-clause-no_answer
returns-clause-no_answer c = λ a clock p one other first second. one_first (PartRule a clock p) part_order one other first second
