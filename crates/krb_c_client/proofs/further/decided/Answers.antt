use Rattle.std.proofs.Common.{refl}
use Rattle.std.proofs.lemmas.Result.{err_from_is_err_and}
use Rattle.krb_c_client.specs.Service.{begins, begins_not, goes_not_on, goes_on, no_means, not_in_turn, not_prepared}
use Rattle.krb_c_client.proofs.Results.{err_map, ok_map}
use Rattle.krb_c_client.proofs.Turning.{to_begin, to_go_on}
use Rattle.krb_c_client.proofs.further.decided.Goals as goal

pub returns-then-not-is_further_turn-clause-refused : goal.returns-then-not-is_further_turn-clause-refused
returns-then-not-is_further_turn-clause-refused c = not_in_turn c.if-not-is_further_turn.ensures c.out_of_turn.ensures

pub returns-in_err-prepared-clause-refused : goal.returns-in_err-prepared-clause-refused
returns-in_err-prepared-clause-refused c =
    let p = err_from_is_err_and c.from_residual.result c.from_residual.ensures.1 in
    rw (p.1, p.2) (not_prepared c.in_err-prepared.field-0.0 c.if-not-is_further_turn.ensures c.in_err-prepared.ensures.refused refl)

pub returns-in_err-means-clause-refused : goal.returns-in_err-means-clause-refused
returns-in_err-means-clause-refused c =
    let p = err_from_is_err_and c.from_residual-in_err-means.result c.from_residual-in_err-means.ensures.1 in
    rw (p.1, p.2)
    (no_means c.in_ok-prepared.prepared.asked c.in_ok-prepared.prepared.moment c.in_err-means.field-0.0 c.if-not-is_further_turn.ensures
    c.in_ok-prepared.ensures.made c.in_err-means.ensures.refused refl)

pub returns-then-is_absent-clause-follows : goal.returns-then-is_absent-clause-follows
returns-then-is_absent-clause-follows c =
    ok_map c.opened.result (λ f is. begins c.in_ok-prepared.prepared.asked c.in_ok-prepared.prepared.moment c.by_of-lent.result c.in_ok-means.means.subkey
    (to_begin _ c.args.kept.now _ c.if-not-is_further_turn.ensures c.if-is_absent.ensures)
    c.in_ok-prepared.ensures.made
    (record { ticket = c.in_ok-means.means.ticket; suite = c.in_ok-means.means.suite; are_means = c.in_ok-means.ensures.made; is_by = c.by_of-lent.ensures })
    c.if-is_absent.ensures is) c.opened.ensures.opens

pub returns-then-is_absent-clause-refused : goal.returns-then-is_absent-clause-refused
returns-then-is_absent-clause-refused c =
    err_map c.opened.result (λ r is. begins_not c.in_ok-prepared.prepared.asked c.in_ok-prepared.prepared.moment c.by_of-lent.result c.in_ok-means.means.subkey
    (to_begin _ c.args.kept.now _ c.if-not-is_further_turn.ensures c.if-is_absent.ensures)
    c.in_ok-prepared.ensures.made
    (record { ticket = c.in_ok-means.means.ticket; suite = c.in_ok-means.means.suite; are_means = c.in_ok-means.ensures.made; is_by = c.by_of-lent.ensures })
    c.if-is_absent.ensures is) c.opened.ensures.refused

pub returns-clause-follows : goal.returns-clause-follows
returns-clause-follows c =
    ok_map c.continued.result (λ f is. goes_on c.in_ok-prepared.prepared.asked c.in_ok-prepared.prepared.moment c.by_of-lent.result c.in_ok-means.means.subkey
    (to_go_on _ c.args.kept.now _ c.if-not-is_further_turn.ensures c.if-is_absent.ensures)
    c.in_ok-prepared.ensures.made
    (record { ticket = c.in_ok-means.means.ticket; suite = c.in_ok-means.means.suite; are_means = c.in_ok-means.ensures.made; is_by = c.by_of-lent.ensures })
    c.if-is_absent.ensures is) c.continued.ensures.goes_on

pub returns-clause-refused : goal.returns-clause-refused
returns-clause-refused c =
    err_map c.continued.result (λ r is. goes_not_on c.in_ok-prepared.prepared.asked c.in_ok-prepared.prepared.moment c.by_of-lent.result c.in_ok-means.means.subkey
    (to_go_on _ c.args.kept.now _ c.if-not-is_further_turn.ensures c.if-is_absent.ensures)
    c.in_ok-prepared.ensures.made
    (record { ticket = c.in_ok-means.means.ticket; suite = c.in_ok-means.means.suite; are_means = c.in_ok-means.ensures.made; is_by = c.by_of-lent.ensures })
    c.if-is_absent.ensures is) c.continued.ensures.refused
