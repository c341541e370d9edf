use Rattle.std.proofs.lemmas.Result.{err_from_is_err_and}
use Rattle.krb_c_client.specs.Asked.{not_asked}
use Rattle.krb_c_client.proofs.asked.prepared_of.Goals as goal

pub returns-in_err-asked-clause-refused : goal.returns-in_err-asked-clause-refused
returns-in_err-asked-clause-refused c =
    let p = err_from_is_err_and c.from_residual-in_err-asked.result c.from_residual-in_err-asked.ensures.1 in
    rw (p.1, p.2) (not_asked c.in_ok-moment.ensures.made.sixteen c.in_err-asked.ensures.refused)
