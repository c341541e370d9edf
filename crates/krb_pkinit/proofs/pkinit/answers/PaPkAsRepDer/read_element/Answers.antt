use Rattle.std.proofs.Common.{arith}
use Rattle.std.proofs.lemmas.Result.{err_from_is_err_and}
use Rattle.krb_der.proofs.Choices.{neither_tag, first_rejected}
use Rattle.krb_pkinit.specs.Replies.{held, tags_apart}
use Rattle.krb_der.proofs.Choices.{neither_wrong, first_wrong, second_wrong}
use Rattle.krb_pkinit.proofs.pkinit.answers.PaPkAsRepDer.read_element.Goals as goal

pub returns-in_err-read_element-in-160-clause-rejected : goal.returns-in_err-read_element-in-160-clause-rejected
returns-in_err-read_element-in-160-clause-rejected c =
    let p = err_from_is_err_and c.from_residual.result c.from_residual.ensures.1 in
    rw (p.1, p.2) (first_rejected held _ _ 160 129 _ _ c.args.tag c.args.content.now tags_apart c.in-160.is c.in_err-read_element-in-160.field-0.0 c.in_err-read_element-in-160.ensures.rejected)

pub returns-in_default-clause-rejected : goal.returns-in_default-clause-rejected
returns-in_default-clause-rejected c = neither_tag held _ _ 160 129 _ _ c.args.tag c.args.content.now (λ e. omega arith) (λ e. omega arith)

pub returns-in_err-read_element-in-160-clause-first_error : goal.returns-in_err-read_element-in-160-clause-first_error
returns-in_err-read_element-in-160-clause-first_error c =
    let p = err_from_is_err_and c.from_residual.result c.from_residual.ensures.1 in
    rw (p.1, p.2) (first_wrong 160 129 _ _ c.args.tag c.args.content.now c.in_err-read_element-in-160.field-0.0 c.in-160.is c.in_err-read_element-in-160.ensures.first_error)

pub returns-in_err-read_element-in-129-clause-first_error : goal.returns-in_err-read_element-in-129-clause-first_error
returns-in_err-read_element-in-129-clause-first_error c =
    let p = err_from_is_err_and c.from_residual-in_err-read_element-in-129.result c.from_residual-in_err-read_element-in-129.ensures.1 in
    rw (p.1, p.2) (second_wrong 160 129 _ _ c.args.tag c.args.content.now c.in_err-read_element-in-129.field-0.0 c.in-129.is c.in_err-read_element-in-129.ensures.first_error)

pub returns-in_default-clause-first_error : goal.returns-in_default-clause-first_error
returns-in_default-clause-first_error c = neither_wrong 160 129 _ _ c.args.tag c.args.content.now (λ e. omega arith) (λ e. omega arith)
