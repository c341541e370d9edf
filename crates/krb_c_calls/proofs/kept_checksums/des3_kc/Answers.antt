use Rattle.std.proofs.lemmas.Result.{err_from_is_err_and}
use Rattle.krb_c_calls.proofs.KeptSums.{des3_refused}
use Rattle.krb_c_calls.proofs.kept_checksums.des3_kc.Goals as goal

pub returns-in_err-kc : goal.returns-in_err-kc
returns-in_err-kc c =
    let p = err_from_is_err_and c.from_residual.result c.from_residual.ensures.1 in
    rw (p.1, p.2) (des3_refused c.args.key.now c.in_err-kc.field-0.0 c.if-key-ne-DES3_KEY_SIZE.false c.in_err-kc.ensures.rejected)
