use Rattle.std.proofs.Common.{◌<◌, inr, arith}
use Rattle.std.proofs.lemmas.Result.{err_from_is_err_and}
use Rattle.krb_negoex.specs.GuidLayout.{guid}
use Rattle.krb_negoex.specs.View.{scheme_of}
use Rattle.krb_negoex.proofs.Viewed.{more_there, vector_found, vector_rejected}
use Rattle.krb_negoex.proofs.view.schemes_view.Goals as goal

pub elements-preserved : goal.elements-preserved
elements-preserved c = more_there guid scheme_of (λ f m v x. x.value) c.args.message.now c.octets_from.result.now c.in_ok-offset.offset c.elements.n c.in_ok-scheme_view.field-0 c.octets_from.ensures c.in_ok-scheme_view.ensures.found c.elements.invariant

pub returns-in_err-scheme_view-clause-rejected : goal.returns-in_err-scheme_view-clause-rejected
returns-in_err-scheme_view-clause-rejected c =
    let p = err_from_is_err_and c.from_residual-in_err-scheme_view.result c.from_residual-in_err-scheme_view.ensures.1 in
    rw (p.1, p.2) (inr (inr (inr (vector_rejected guid scheme_of (λ f m v x. x.value) c.args.octets.now c.in_ok-offset.trailing.now c.args.message.now c.octets_from.result.now c.in_ok-offset.offset c.in_ok-count.count c.elements.n
    c.in_err-scheme_view.field-0.0 c.in_ok-offset.ensures.number.1 c.in_ok-offset.ensures.trailing c.in_ok-count.ensures.number.0 c.in_ok-count.ensures.number.1 (omega arith) (omega arith)
    c.elements.invariant c.octets_from.ensures c.in_err-scheme_view.ensures.rejected))))

pub returns-clause-found : goal.returns-clause-found
returns-clause-found c =
    vector_found guid scheme_of (λ f m v x. x.value) c.args.octets.now c.in_ok-offset.trailing.now c.args.message.now c.in_ok-offset.offset c.in_ok-count.count c.in_ok-offset.ensures.number.1
    c.in_ok-offset.ensures.trailing c.in_ok-count.ensures.number.0 c.in_ok-count.ensures.number.1 (omega arith) (λ k h. let below : k < c.elements.n = omega arith in c.elements.invariant k below)
