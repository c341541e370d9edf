use Rattle.krb_c_accept.proofs.Failing.{fails}
use Rattle.krb_c_accept.proofs.reply.answer_to.Goals as goal

pub returns-in-Err-clause-refused : goal.returns-in-Err-clause-refused
returns-in-Err-clause-refused c =
    rw c.reply_error.ensures
    (fails c.args.accepted.now c.args.suite.now c.args.random.now c.confounder_in-confounder.result.now c.in-Err.error c.requires.random
    c.requires.of_suite c.requires.size c.confounder_in-confounder.ensures c.in-Err.ensures.refused)
