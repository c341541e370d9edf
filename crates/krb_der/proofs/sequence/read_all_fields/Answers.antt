use Rattle.std.proofs.Common.{[], sym, ◌∙◌}
use Rattle.std.proofs.lemmas.List.{append-nil}
use Rattle.std.proofs.lemmas.Result.{err_from_is_err_and}
use Rattle.krb_der.specs.Composite.{nothing}
use Rattle.krb_der.proofs.WholeInput.{not_whole}
use Rattle.krb_der.proofs.FieldSteps.{left_over}
use Rattle.krb_der.proofs.ErrorSteps.{prefix_wrong, too_many}
use Rattle.krb_der.proofs.sequence.read_all_fields.Goals as goal

pub returns-in_err-parts-clause-rejected : goal.returns-in_err-parts-clause-rejected
returns-in_err-parts-clause-rejected g c =
    let p = err_from_is_err_and c.from_residual.result c.from_residual.ensures.1 in
    rw (p.1, p.2) (not_whole g.F.Fields.are_values g.F.Fields.octets c.args.content.now c.in_err-parts.field-0.0 (λ v hv q. c.in_err-parts.ensures.reads nothing c.requires v [] hv tt (q ∙ sym (append-nil (g.F.Fields.octets v)))) c.in_err-parts.ensures.no_device)

pub returns-then-taken-content-clause-rejected : goal.returns-then-taken-content-clause-rejected
returns-then-taken-content-clause-rejected g c = λ v hv q.
    left_over g.F.Fields.octets c.in_ok-parts.parts v c.in_ok-parts.taken c.args.content.now c.in_ok-parts.ensures.found (c.in_ok-parts.ensures.reads nothing c.requires v [] hv tt (q ∙ sym (append-nil (g.F.Fields.octets v)))) c.if-taken-content.true q

pub returns-in_err-parts-clause-first_error : goal.returns-in_err-parts-clause-first_error
returns-in_err-parts-clause-first_error g c =
    let p = err_from_is_err_and c.from_residual.result c.from_residual.ensures.1 in
    rw (p.1, p.2) (prefix_wrong g.F.Fields.are_values g.F.Fields.octets g.F.Fields.ends g.F.Fields.error c.args.content.now c.in_err-parts.field-0.0 c.in_err-parts.ensures.first_error)

pub returns-then-taken-content-clause-first_error : goal.returns-then-taken-content-clause-first_error
returns-then-taken-content-clause-first_error g c =
    too_many g.F.Fields.are_values g.F.Fields.octets g.F.Fields.ends g.F.Fields.error c.in_ok-parts.parts c.in_ok-parts.taken c.args.content.now c.in_ok-parts.ensures.valid c.in_ok-parts.ensures.found c.in_ok-parts.ensures.ends c.if-taken-content.true
