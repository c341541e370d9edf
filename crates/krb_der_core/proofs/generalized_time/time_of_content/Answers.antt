use Rattle.std.proofs.Common.{◌∙◌}
use Rattle.std.proofs.lemmas.Bool.{false≢true}
use Rattle.std.proofs.lemmas.Result.{err_from_is_err_and}
use Rattle.krb_der_core.proofs.TimesRead.{none_reported, none_written}
use Rattle.krb_der_core.proofs.generalized_time.time_of_content.Goals as goal

pub returns-in_err-time-clause-rejected : goal.returns-in_err-time-clause-rejected
returns-in_err-time-clause-rejected c =
    let p = err_from_is_err_and c.from_residual.result c.from_residual.ensures.1 in
    rw p.1 (none_reported c.args.content.now (λ real. false≢true (c.in_err-time.ensures.real.1 real)))

pub returns-then-ne-clause-rejected : goal.returns-then-ne-clause-rejected
returns-then-ne-clause-rejected c =
    none_written c.args.content.now c.as_slice.result.now c.in_ok-time.time c.ne.result c.in_ok-time.ensures.value (c.as_slice.ensures ∙ c.octets.ensures) c.ne.ensures c.if-ne.true
