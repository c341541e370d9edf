use Rattle.std.proofs.Common.{refl, inl}
use Rattle.krb_c_calls.proofs.FrameLengths.{ap_stands, priv_stands}
use Rattle.krb_c_calls.proofs.frames.password.password_frame.Goals as goal

pub returns-in-Ok : goal.returns-in-Ok
returns-in-Ok c =
    let f = c.in-Ok.ensures.found in
    inl (f.0, f.1, f.2, f.3, refl, ap_stands _ _ c.args.frame.now f.0 f.1 f.2 c.in-Ok.ap f.3 f.4, priv_stands _ _ c.args.frame.now f.0 f.1 f.2 c.in-Ok.ap c.in-Ok.private f.3 f.4 f.5)
