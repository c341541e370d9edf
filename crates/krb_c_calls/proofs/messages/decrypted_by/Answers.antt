use Rattle.std.proofs.lemmas.Int.{to_z-of_z}
use Rattle.std.proofs.lemmas.Result.{err_from_is_err_and}
use Rattle.krb_c_calls.proofs.Answered.{refused_prepared}
use Rattle.krb_c_calls.proofs.messages.decrypted_by.Goals as goal

pub returns-in_err-decrypt : goal.returns-in_err-decrypt
returns-in_err-decrypt c =
    let usage = c.ranges.usage in
    let p = err_from_is_err_and c.from_residual-in_err-decrypt.result c.from_residual-in_err-decrypt.ensures.1 in
    let told = c.in_err-decrypt.ensures in
    rw (p.1, p.2)
    (refused_prepared c.args.suite.now c.args.key.now c.args.usage c.args.sealed.now c.in_ok-prepared.prepared c.in_err-decrypt.field-0.0 c.in_ok-prepared.ensures.suite
    (simp to_z-of_z at c.in_ok-prepared.ensures.prepared) (told.rejected c.args.key.now c.args.usage) (told.exact c.args.key.now c.args.usage))
