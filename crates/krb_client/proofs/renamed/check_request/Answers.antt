use Rattle.std.proofs.Common.{refl}
use Rattle.std.proofs.lemmas.Result.{err_from_is_err_and}
use Rattle.krb_client.specs.Renamed.{no_sum, other_sum}
use Rattle.krb_client.proofs.renamed.check_request.Goals as goal

pub returns-in_err-sum-clause-rejected : goal.returns-in_err-sum-clause-rejected
returns-in_err-sum-clause-rejected c =
    let p = err_from_is_err_and c.from_residual.result c.from_residual.ensures.1 in
    rw (p.1, p.2) (no_sum c.in-Some.octets.now c.in-Some.ensures c.in_err-sum.ensures.rejected)

pub returns-then-are_same-clause-has : goal.returns-then-are_same-clause-has
returns-then-are_same-clause-has c = record {
  sum = c.in_ok-sum.sum.items;
  is_sum = c.in_ok-sum.ensures.made;
  has = rw (rw c.as_slice.ensures.value at c.if-are_same.ensures) c.in-Some.ensures;
}

pub returns-clause-rejected : goal.returns-clause-rejected
returns-clause-rejected c =
    other_sum c.in-Some.octets.now c.in_ok-sum.sum.items c.in-Some.ensures c.in_ok-sum.ensures.made (rw c.as_slice.ensures.value at c.if-are_same.ensures) refl
