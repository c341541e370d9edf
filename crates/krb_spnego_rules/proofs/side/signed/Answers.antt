use Rattle.std.proofs.Common.{Some, refl, subst, sym}
use Rattle.krb_spnego_rules.specs.Steps.{Signs}
use Rattle.krb_spnego_rules.proofs.side.signed.Goals as goal

pub returns-in_ok-mic : goal.returns-in_ok-mic
returns-in_ok-mic g c =
    subst (λ wanted. Signs g.M.Mechanism.meaning c.args.mechanism.now c.args.list.now wanted c.make_mic.new.self (Some c.in_ok-mic.mic))
    (sym c.if-wanted.true) (c.in_ok-mic.mic, (refl, c.in_ok-mic.ensures))
