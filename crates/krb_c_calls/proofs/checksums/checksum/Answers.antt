use Rattle.std.proofs.lemmas.Int.{to_z-of_z}
use Rattle.krb_c_calls.specs.Checksums.{IsChecksum, RefusesChecksum}
use Rattle.krb_c_calls.proofs.Answered.{answered}
use Rattle.krb_c_calls.proofs.checksums.checksum.Goals as goal

pub returns : goal.returns
returns c =
    let cksumtype = c.ranges.cksumtype in let usage = c.ranges.usage in
    answered c.summed.result (λ v. v.items) (IsChecksum c.args.cksumtype c.args.key.now c.args.usage c.args.message.now)
    (RefusesChecksum c.args.cksumtype c.args.key.now) _ _ _ _ (simp to_z-of_z at c.summed.ensures) c.hand_out.ensures
