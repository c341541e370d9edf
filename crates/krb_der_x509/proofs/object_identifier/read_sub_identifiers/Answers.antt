use Rattle.std.proofs.Common.{◌≡◌, ◌<◌, ◌-◌, length, take, drop, sym, ◌∙◌, arith, inr, length-drop}
use Rattle.std.proofs.lemmas.List.{take_rest}
use Rattle.std.proofs.lemmas.Result.{err_from_is_err_and}
use Rattle.krb_der_x509.proofs.ObjectIdentifiers.{subs_stuck, takes_some, positive}
use Rattle.krb_der_x509.proofs.object_identifier.read_sub_identifiers.Goals as goal

pub returns-in_err-n-clause-rejected : goal.returns-in_err-n-clause-rejected
returns-in_err-n-clause-rejected c =
    let p = err_from_is_err_and c.from_residual.result c.from_residual.ensures.1 in
    rw (p.1, p.2) (inr (λ v below q. subs_stuck c.loop-rest.numbers.items v c.loop-rest.rest.now (positive (length c.loop-rest.rest.now) (sym c.loop-rest-test.ensures)) c.in_err-n.ensures.rejected below (sym c.loop-rest.invariant.0 ∙ q)))

pub loop-rest-smaller : goal.loop-rest-smaller
loop-rest-smaller c =
    let rest = c.loop-rest.rest.now in
    let n = c.in_ok-n.taken in
    let some : 0 < n = takes_some c.in_ok-n.n n rest c.in_ok-n.ensures.found in
    let trailing : take (length rest - n) (drop n rest) ≡ drop n rest = take_rest rest n in
    let pos : 0 < length rest = positive (length rest) (sym c.loop-rest-test.ensures) in
    rw trailing (omega (arith, length-drop n rest))

pub returns-in_err-n-clause-first_error : goal.returns-in_err-n-clause-first_error
returns-in_err-n-clause-first_error c =
    let p = err_from_is_err_and c.from_residual.result c.from_residual.ensures.1 in
    rw (p.1, p.2) (inr (record {
      items = c.loop-rest.numbers.items;
      rest = c.loop-rest.rest.now;
      values = c.loop-rest.invariant.1;
      parts = c.loop-rest.invariant.0;
      some_left = positive (length c.loop-rest.rest.now) (sym c.loop-rest-test.ensures);
      first_left = c.in_err-n.ensures.first_error;
    }))
