use Rattle.std.proofs.Common.{inl, rules}
use Rattle.std.proofs.lemmas.Result.{err_from_is_err_and}
use Rattle.krb_client.proofs.requests.body.times_of.Goals as goal

pub returns-in_err-from : goal.returns-in_err-from
returns-in_err-from c =
    let p = err_from_is_err_and c.from_residual.result c.from_residual.ensures.1 in
    rw (p.1, p.2) (c.in_err-from.ensures.0, inl c.in_err-from.ensures.1)

pub returns : goal.returns
returns c = record { is_from = c.in_ok-from.ensures; is_till = search rules; is_rtime = c.in_ok-rtime.ensures }
