use Rattle.std.proofs.Common.{sym, arith}
use Rattle.std.specs.Vec.{vec_len}
use Rattle.std.proofs.lemmas.Bool.{eqb-true}
use Rattle.std.proofs.lemmas.Result.{err_from_is_err_and}
use Rattle.krb_der_x509.proofs.ObjectIdentifiers.{arcs_rejected, no_arcs}
use Rattle.krb_der_x509.proofs.object_identifier.read_arcs.Goals as goal

pub returns-in_err-arcs-clause-rejected : goal.returns-in_err-arcs-clause-rejected
returns-in_err-arcs-clause-rejected c =
    let p = err_from_is_err_and c.from_residual.result c.from_residual.ensures.1 in
    rw (p.1, p.2) (arcs_rejected c.args.content.now c.in_err-arcs.field-0.0 c.in_err-arcs.ensures.error c.in_err-arcs.ensures.rejected)

pub returns-then-is_empty-clause-rejected : goal.returns-then-is_empty-clause-rejected
returns-then-is_empty-clause-rejected c = λ v hv q.
    no_arcs c.args.content.now c.in_ok-arcs.arcs.items v (omega (arith, eqb-true (vec_len c.in_ok-arcs.arcs) 0 (sym c.if-is_empty.ensures), c.in_ok-arcs.arcs.ok)) c.in_ok-arcs.ensures.found hv q
