use Rattle.std.proofs.Common.{inl, inr, sym}
use Rattle.std.proofs.lemmas.Result.{err_from_is_err_and}
use Rattle.krb_c_accept.proofs.decision.judged.Goals as goal

pub returns-in_err-presented-clause-refused : goal.returns-in_err-presented-clause-refused
returns-in_err-presented-clause-refused c =
    let p = err_from_is_err_and c.from_residual.result c.from_residual.ensures.1 in
    rw (p.1, p.2, sym c.deref.ensures.value, sym c.deref-2.ensures.value) (inl c.in_err-presented.ensures.refused)

pub returns-in_err-let_in-clause-refused : goal.returns-in_err-let_in-clause-refused
returns-in_err-let_in-clause-refused c =
    let p = err_from_is_err_and c.from_residual-in_err-let_in.result c.from_residual-in_err-let_in.ensures.1 in
    rw (p.1, p.2, sym c.deref.ensures.value, sym c.deref-2.ensures.value)
    (inr (c.in_ok-presented.presented, c.in_ok-presented.ensures.found, c.in_err-let_in.ensures.refused))

pub returns-clause-let_in : goal.returns-clause-let_in
returns-clause-let_in c = record {
  presented = c.in_ok-presented.presented;
  is_presented = rw (sym c.deref.ensures.value, sym c.deref-2.ensures.value) c.in_ok-presented.ensures.found;
  whole = c.in_ok-let_in.ensures.whole;
  entry_is = c.in_ok-let_in.ensures.entry;
  told = c.in_ok-let_in.ensures.told;
}
