use Rattle.std.proofs.lemmas.Result.{err_from_is_err_and}
use Rattle.krb_c_calls.proofs.Answered.{refused_prepared}
use Rattle.krb_c_calls.proofs.KeptAgain.{AreMadeOf, opened_again, prepared_again, suite_kept}
use Rattle.krb_c_calls.proofs.kept.decrypted_under.Goals as goal

pub returns : goal.returns
returns c =
    opened_again c.args.suite.now c.args.kept.now _ _ c.in_ok-prepared.prepared (c.key_size.ensures, c.integrity_key_size.ensures.size, c.in_ok-prepared.ensures.made)
    c.args.sealed.now c.in_ok-decrypt.field-0.items c.in_ok-decrypt.ensures.opened

pub returns-in_err-decrypt : goal.returns-in_err-decrypt
returns-in_err-decrypt c key usage h =
    let made : AreMadeOf c.args.suite.now c.args.kept.now _ _ c.in_ok-prepared.prepared =
    (c.key_size.ensures, c.integrity_key_size.ensures.size, c.in_ok-prepared.ensures.made) in
    let p = err_from_is_err_and c.from_residual-in_err-decrypt.result c.from_residual-in_err-decrypt.ensures.1 in
    let told = c.in_err-decrypt.ensures in
    rw (p.1, p.2)
    (refused_prepared c.args.suite.now key usage c.args.sealed.now c.in_ok-prepared.prepared c.in_err-decrypt.field-0.0
    (suite_kept c.args.suite.now c.args.kept.now _ _ c.in_ok-prepared.prepared made)
    (prepared_again c.args.suite.now c.args.kept.now _ _ c.in_ok-prepared.prepared made key usage h)
    (told.rejected key usage) (told.exact key usage))
