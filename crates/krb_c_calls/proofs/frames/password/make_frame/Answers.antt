use Rattle.krb_c_calls.proofs.Answered.{answered}
use Rattle.krb_c_calls.specs.Password.{IsMadeFrame, RefusesMaking}
use Rattle.krb_c_calls.proofs.frames.password.make_frame.Goals as goal

pub returns : goal.returns
returns g c =
    answered c.frame_of.result (λ v. v.items) (IsMadeFrame g.A.DerEncode g.B.DerEncode c.args.ap_message.now c.args.krb_priv.now)
    (RefusesMaking g.A.DerEncode g.B.DerEncode c.args.ap_message.now c.args.krb_priv.now) _ _ _ _ c.frame_of.ensures c.hand_out.ensures
