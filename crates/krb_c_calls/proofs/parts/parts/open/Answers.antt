use Rattle.std.proofs.lemmas.Int.{to_z-of_z}
use Rattle.krb_c_calls.specs.Parts.{IsOpening, RefusesOpening}
use Rattle.krb_c_calls.proofs.Answered.{answered}
use Rattle.krb_c_calls.proofs.parts.parts.open.Goals as goal

pub returns : goal.returns
returns g c =
    let fits = c.ranges.usage in
    let number_fits = c.ranges.etype in
    let right = simp to_z-of_z at c.opened.ensures in
    answered c.opened.result (λ made. made.items) (IsOpening g.T.DerEncode c.args.etype c.args.key.now c.args.usage c.args.sealed.now)
    (RefusesOpening g.T.DerEncode c.args.etype c.args.key.now c.args.usage c.args.sealed.now) _ _ _ _ right c.hand_out.ensures
