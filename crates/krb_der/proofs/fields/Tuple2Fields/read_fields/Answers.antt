use Rattle.std.proofs.Common.{◌≡◌, ◌++◌, ◌∙◌, append_assoc}
use Rattle.std.proofs.lemmas.Result.{err_from_is_err_and}
use Rattle.krb_der.specs.FieldLaws.{same_both}
use Rattle.krb_der.proofs.FieldSteps.{trailing_left}
use Rattle.krb_der.proofs.ErrorSteps.{left_wrong, right_wrong}
use Rattle.krb_der.proofs.fields.Tuple2Fields.read_fields.Goals as goal

pub returns-in_err-left-clause-reads : goal.returns-in_err-left-clause-reads
returns-in_err-left-clause-reads g c =
    let p = err_from_is_err_and c.from_residual.result c.from_residual.ensures.1 in
    rw (p.1, p.2) (λ follow is_apart w y h hy q. c.in_err-left.ensures.reads (g.R.Fields.begins follow) is_apart.0 w.0 (g.R.Fields.octets w.1 ++ y) h.0 (g.R.Fields.begin_so follow w.1 y h.1 hy) (q ∙ append_assoc (g.L.Fields.octets w.0) (g.R.Fields.octets w.1) y))

pub returns-in_err-right-clause-reads : goal.returns-in_err-right-clause-reads
returns-in_err-right-clause-reads g c =
    let p = err_from_is_err_and c.from_residual-in_err-right.result c.from_residual-in_err-right.ensures.1 in
    rw (p.1, p.2) (λ follow is_apart w y h hy q.
    let left : c.in_ok-left.left ≡ w.0 = c.in_ok-left.ensures.reads (g.R.Fields.begins follow) is_apart.0 w.0 (g.R.Fields.octets w.1 ++ y) h.0 (g.R.Fields.begin_so follow w.1 y h.1 hy) (q ∙ append_assoc (g.L.Fields.octets w.0) (g.R.Fields.octets w.1) y) in
    c.in_err-right.ensures.reads follow is_apart.1 w.1 y h.1 hy (trailing_left g.L.Fields.octets g.R.Fields.octets c.in_ok-left.left w.0 w.1 c.in_ok-left.taken c.args.input.now y c.in_ok-left.ensures.found left q))

pub returns-clause-reads : goal.returns-clause-reads
returns-clause-reads g c = λ follow is_apart w y h hy q.
    let left : c.in_ok-left.left ≡ w.0 = c.in_ok-left.ensures.reads (g.R.Fields.begins follow) is_apart.0 w.0 (g.R.Fields.octets w.1 ++ y) h.0 (g.R.Fields.begin_so follow w.1 y h.1 hy) (q ∙ append_assoc (g.L.Fields.octets w.0) (g.R.Fields.octets w.1) y) in
    let right : c.in_ok-right.right ≡ w.1 = c.in_ok-right.ensures.reads follow is_apart.1 w.1 y h.1 hy (trailing_left g.L.Fields.octets g.R.Fields.octets c.in_ok-left.left w.0 w.1 c.in_ok-left.taken c.args.input.now y c.in_ok-left.ensures.found left q) in
    same_both _ w left right

pub returns-in_err-left-clause-first_error : goal.returns-in_err-left-clause-first_error
returns-in_err-left-clause-first_error g c =
    let p = err_from_is_err_and c.from_residual.result c.from_residual.ensures.1 in
    rw (p.1, p.2) (left_wrong g.L.Fields.are_values g.L.Fields.octets g.L.Fields.ends g.L.Fields.error g.R.Fields.error c.args.input.now c.in_err-left.field-0.0 c.in_err-left.ensures.first_error)

pub returns-in_err-right-clause-first_error : goal.returns-in_err-right-clause-first_error
returns-in_err-right-clause-first_error g c =
    let p = err_from_is_err_and c.from_residual-in_err-right.result c.from_residual-in_err-right.ensures.1 in
    rw (p.1, p.2) (right_wrong g.L.Fields.are_values g.L.Fields.octets g.L.Fields.ends g.L.Fields.error g.R.Fields.error c.in_ok-left.left c.in_ok-left.taken c.args.input.now c.in_err-right.field-0.0 c.in_ok-left.ensures.valid c.in_ok-left.ensures.found c.in_ok-left.ensures.ends c.in_err-right.ensures.first_error)
