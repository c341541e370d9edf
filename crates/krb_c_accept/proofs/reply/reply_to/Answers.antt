use Rattle.krb_c_accept.proofs.Replying.{replied}
use Rattle.krb_c_accept.proofs.reply.reply_to.Goals as goal

pub returns-then-wants_reply-clause-made : goal.returns-then-wants_reply-clause-made
returns-then-wants_reply-clause-made c =
    replied _ _ c.args.acceptor.now c.args.random.now c.args.token.now c.args.context.now c.in-Some.suite c.is_in_frame-in_frame.result c.answer_to.result
    (rw c.if-wants_reply.true at c.wants_reply.ensures) c.in-Some.ensures c.is_in_frame-in_frame.ensures c.answer_to.ensures.made
