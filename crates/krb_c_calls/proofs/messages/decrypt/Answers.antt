use Rattle.std.proofs.lemmas.Int.{to_z-of_z}
use Rattle.krb_c_calls.specs.Calls.{IsDecryption, RefusesDecryption}
use Rattle.krb_c_calls.proofs.Answered.{answered}
use Rattle.krb_c_calls.proofs.messages.decrypt.Goals as goal

pub returns : goal.returns
returns c =
    let etype = c.ranges.etype in let usage = c.ranges.usage in
    answered c.decrypted.result (λ v. v.items) (IsDecryption c.args.etype c.args.key.now c.args.usage c.args.sealed.now)
    (RefusesDecryption c.args.etype c.args.key.now c.args.usage c.args.sealed.now) _ _ _ _ (simp to_z-of_z at c.decrypted.ensures) c.hand_out.ensures
