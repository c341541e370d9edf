use Rattle.std.proofs.Common.{rules}
use Rattle.std.proofs.lemmas.Result.{err_from_is_err_and}
use Rattle.krb_messages.proofs.Frames.{second_short, third_short}
use Rattle.krb_messages.proofs.kpasswd.reading.read_header.Goals as goal

pub returns-in_err-version-clause-err : goal.returns-in_err-version-clause-err
returns-in_err-version-clause-err g c =
    let p = err_from_is_err_and c.from_residual-in_err-version.result c.from_residual-in_err-version.ensures.1 in
    rw (p.1, p.2) (second_short _ _ _ c.in_ok-_whole._whole c.in_err-version.field-0.0 (search rules) c.in_ok-_whole.ensures.ok c.in_err-version.ensures.err)

pub returns-in_err-_first-clause-err : goal.returns-in_err-_first-clause-err
returns-in_err-_first-clause-err g c =
    let p = err_from_is_err_and c.from_residual-in_err-_first.result c.from_residual-in_err-_first.ensures.1 in
    rw (p.1, p.2) (third_short _ _ _ _ c.in_ok-_whole._whole c.in_ok-version.version c.in_err-_first.field-0.0 (search rules) (search rules) c.in_ok-_whole.ensures.ok c.in_ok-version.ensures.ok c.in_err-_first.ensures.err)
