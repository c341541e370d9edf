use Rattle.std.proofs.Common.{ℕ, refl, subst, sym, inr}
use Rattle.krb_c_pages.specs.Decoded.{RefusesDecoding}
use Rattle.krb_c_pages.proofs.decoded.call.decode.Goals as goal

pub returns-in-Err : goal.returns-in-Err
returns-in-Err c =
    let refused = c.in-Err.refused.offset in
    let P : ℕ → Type 0 = λ status. RefusesDecoding c.args.type_name.now c.args.octets.now c.args.keytab.now status refused in
    inr (refused, subst P (sym c.status.ensures.number) c.in-Err.ensures, refl, refl)
