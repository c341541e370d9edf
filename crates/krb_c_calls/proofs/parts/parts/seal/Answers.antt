use Rattle.std.proofs.lemmas.Int.{to_z-of_z}
use Rattle.krb_c_calls.specs.Parts.{IsSealing, RefusesSealing}
use Rattle.krb_c_calls.proofs.Answered.{answered}
use Rattle.krb_c_calls.proofs.parts.parts.seal.Goals as goal

pub returns : goal.returns
returns g c =
    let fits = c.ranges.usage in
    let number_fits = c.ranges.etype in
    let right = simp to_z-of_z at c.sealed.ensures in
    answered c.sealed.result (λ made. made.items) (IsSealing g.T.DerEncode c.args.etype c.args.key.now c.args.usage c.args.confounder.now c.args.part.now)
    (RefusesSealing g.T.DerEncode c.args.etype c.args.key.now c.args.confounder.now c.args.part.now) _ _ _ _ right c.hand_out.ensures
