use Rattle.std.proofs.Common.{inr}
use Rattle.std.proofs.lemmas.Int.{to_z-of_z}
use Rattle.std.proofs.lemmas.Result.{err_from_is_err_and}
use Rattle.krb_c_calls.proofs.parts.parts.opened.Goals as goal

pub returns-in_err-value : goal.returns-in_err-value
returns-in_err-value g c =
    let usage_fits = c.ranges.usage in
    let number_fits = c.ranges.etype in
    let numbered = simp to_z-of_z at c.in_ok-suite.ensures in
    let refused = simp to_z-of_z at c.in_err-value.ensures in
    let p = err_from_is_err_and c.from_residual-in_err-value.result c.from_residual-in_err-value.ensures.1 in
    rw (p.1, p.2) (inr (c.in_ok-suite.suite, numbered, refused))
