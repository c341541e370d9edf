use Rattle.std.proofs.lemmas.Int.{to_z-of_z}
use Rattle.krb_c_calls.specs.Wraps.{IsSealedWrap, RefusesSealing}
use Rattle.krb_c_calls.proofs.Answered.{answered}
use Rattle.krb_c_calls.proofs.tokens.wraps.wrap.Goals as goal

pub returns : goal.returns
returns c =
    let etype = c.ranges.etype in
    answered c.sealed_wrap-made.result (λ v. v.items)
    (IsSealedWrap c.args.etype c.args.key.now c.args.sent_by_acceptor c.args.acceptor_subkey c.args.sequence_number c.args.rotation c.args.confounder.now c.args.message.now)
    (RefusesSealing c.args.etype c.args.key.now c.args.confounder.now) _ _ _ _ (simp to_z-of_z at c.sealed_wrap-made.ensures) c.hand_out.ensures
