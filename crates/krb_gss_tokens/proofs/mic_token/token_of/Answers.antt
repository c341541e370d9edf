use Rattle.std.proofs.Common.{drop}
use Rattle.std.proofs.lemmas.Result.{err_from_is_err_and}
use Rattle.krb_gss_tokens.proofs.mic_token.token_of.Goals as goal

pub returns-in_err-checksum-clause-first_error : goal.returns-in_err-checksum-clause-first_error
returns-in_err-checksum-clause-first_error c =
    let p = err_from_is_err_and c.from_residual-in_err-checksum.result c.from_residual-in_err-checksum.ensures.1 in
    rw (p.1, p.2) (c.in_ok-flags.flags, c.in_ok-flags.seq_num, (drop 16 c.args.octets.now, c.in_ok-flags.ensures.ok))
