use Rattle.std.proofs.lemmas.Int.{to_z-of_z}
use Rattle.krb_c_calls.specs.Keys.{IsKeyOfPassword, RefusesPassword}
use Rattle.krb_c_calls.proofs.Answered.{answered}
use Rattle.krb_c_calls.proofs.keys.string_to_key.Goals as goal

pub returns : goal.returns
returns c =
    let etype = c.ranges.etype in
    answered c.key_of_password.result (λ v. v.items) (IsKeyOfPassword c.args.etype c.args.password.now c.args.salt.now)
    (RefusesPassword c.args.etype c.args.password.now c.args.salt.now) _ _ _ _ (simp to_z-of_z at c.key_of_password.ensures) c.hand_out.ensures
