use Rattle.std.proofs.lemmas.Int.{to_z-of_z}
use Rattle.krb_c_calls.specs.Keys.{IsKeyOfSeed, RefusesSeed}
use Rattle.krb_c_calls.proofs.Answered.{answered}
use Rattle.krb_c_calls.proofs.keys.random_to_key.Goals as goal

pub returns : goal.returns
returns c =
    let etype = c.ranges.etype in
    answered c.key_of_seed.result (λ v. v.items) (IsKeyOfSeed c.args.etype c.args.seed.now)
    (RefusesSeed c.args.etype c.args.seed.now) _ _ _ _ (simp to_z-of_z at c.key_of_seed.ensures) c.hand_out.ensures
