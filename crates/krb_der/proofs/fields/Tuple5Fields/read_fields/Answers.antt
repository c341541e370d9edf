use Rattle.std.proofs.Common.{ap}
use Rattle.std.proofs.lemmas.Result.{err_from_is_err_and}
use Rattle.krb_der.proofs.fields.Tuple5Fields.read_fields.Goals as goal

pub returns-in_err-a-clause-reads : goal.returns-in_err-a-clause-reads
returns-in_err-a-clause-reads g c =
    let p = err_from_is_err_and c.from_residual.result c.from_residual.ensures.1 in
    rw (p.1, p.2) (λ follow is_apart w y h hy q. c.in_err-a.ensures.reads follow ((is_apart.0, is_apart.1, is_apart.2, is_apart.3), is_apart.4) ((w.0, w.1, w.2, w.3), w.4) y ((h.0, h.1, h.2, h.3), h.4) hy q)

pub returns-clause-reads : goal.returns-clause-reads
returns-clause-reads g c = λ follow is_apart w y h hy q. ap (λ p. (p.0.0, p.0.1, p.0.2, p.0.3, p.1)) (c.in_ok-a.ensures.reads follow ((is_apart.0, is_apart.1, is_apart.2, is_apart.3), is_apart.4) ((w.0, w.1, w.2, w.3), w.4) y ((h.0, h.1, h.2, h.3), h.4) hy q)
