use Rattle.std.proofs.lemmas.Result.{err_from_is_err_and}
use Rattle.test_rows.proofs.ToyOpening.{rejected_without, opens_without}
use Rattle.test_rows.proofs.crypto.toy.ToyCipher.decrypt.Goals as goal

pub returns-in_err-decrypt_no_checksum-clause-rejected : goal.returns-in_err-decrypt_no_checksum-clause-rejected
returns-in_err-decrypt_no_checksum-clause-rejected c = λ right.
    let p = err_from_is_err_and c.from_residual.result c.from_residual.ensures.1 in
    rw (p.1, p.2) (rejected_without _ 4 4 _ _ (c.in_err-decrypt_no_checksum.ensures.rejected right))

pub returns-clause-opened : goal.returns-clause-opened
returns-clause-opened c =
    let opened = c.in_ok-decrypt_no_checksum.ensures.opened in
    opens_without _ 4 4 _ _ _ _ _ opened.1 opened.2
