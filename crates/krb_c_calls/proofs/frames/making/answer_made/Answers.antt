use Rattle.krb_c_calls.proofs.Made.{answer_made}
use Rattle.krb_c_calls.proofs.frames.making.answer_made.Goals as goal

pub returns : goal.returns
returns c =
    answer_made _ c.args.state c.in_ok-number.number c.args.mechanism.now c.args.token.now c.args.mic.now c.in_ok-made.made.items c.encoding.result (λ v. v.items)
    c.in_ok-number.ensures c.in_ok-made.ensures c.encoding.ensures
