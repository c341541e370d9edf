use Rattle.std.proofs.Common.{inr}
use Rattle.krb_spnego_rules.proofs.Doing.{finished, waited}
use Rattle.krb_spnego_rules.proofs.side.act.Goals as goal

pub returns-in_ok-sent-in-Finish : goal.returns-in_ok-sent-in-Finish
returns-in_ok-sent-in-Finish g c =
    inr (finished g.M.Mechanism.meaning c.args.running c.args.turn c.args.mic c.args.named c.args.decision c.in-Finish.with_mic c.in_ok-sent-in-Finish.sent
    c.in-Finish.is c.in_ok-sent-in-Finish.ensures)

pub returns-in_ok-sent-in-Wait : goal.returns-in_ok-sent-in-Wait
returns-in_ok-sent-in-Wait g c =
    inr (waited g.M.Mechanism.meaning c.args.running c.args.turn c.args.mic c.args.named c.args.decision c.in-Wait.with_mic c.in_ok-sent-in-Wait.sent
    c.in-Wait.is c.in_ok-sent-in-Wait.ensures)
