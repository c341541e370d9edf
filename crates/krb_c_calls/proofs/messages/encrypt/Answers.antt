use Rattle.std.proofs.lemmas.Int.{to_z-of_z}
use Rattle.krb_c_calls.specs.Calls.{IsEncryption, RefusesEncryption}
use Rattle.krb_c_calls.proofs.Answered.{answered}
use Rattle.krb_c_calls.proofs.messages.encrypt.Goals as goal

pub returns : goal.returns
returns c =
    let etype = c.ranges.etype in let usage = c.ranges.usage in
    answered c.encrypted.result (λ v. v.items) (IsEncryption c.args.etype c.args.key.now c.args.usage c.args.confounder.now c.args.payload.now)
    (RefusesEncryption c.args.etype c.args.key.now c.args.confounder.now) _ _ _ _ (simp to_z-of_z at c.encrypted.ensures) c.hand_out.ensures
