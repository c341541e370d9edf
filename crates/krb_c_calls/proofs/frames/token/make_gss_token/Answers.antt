use Rattle.krb_c_calls.proofs.Answered.{answered}
use Rattle.krb_c_calls.specs.Token.{IsMadeToken, RefusesMechanism}
use Rattle.krb_c_calls.proofs.frames.token.make_gss_token.Goals as goal

pub returns : goal.returns
returns c =
    answered c.token_of.result (λ v. v.items) (IsMadeToken c.args.mechanism.now c.args.inner.now) (RefusesMechanism c.args.mechanism.now) _ _ _ _ c.token_of.ensures c.hand_out.ensures
