use Rattle.std.proofs.Common.{arith}
use Rattle.std.proofs.lemmas.Result.{err_from_is_err_and}
use Rattle.krb_der.proofs.Choices.{neither_tag, first_rejected, second_rejected}
use Rattle.krb_messages.specs.ApMessage.{held, tags_apart}
use Rattle.krb_der.proofs.Choices.{neither_wrong, first_wrong, second_wrong}
use Rattle.krb_messages.proofs.messages.ap_message.ApMessageDer.read_element.Goals as goal

pub returns-in_err-read_element-in-110-clause-rejected : goal.returns-in_err-read_element-in-110-clause-rejected
returns-in_err-read_element-in-110-clause-rejected c =
    let p = err_from_is_err_and c.from_residual.result c.from_residual.ensures.1 in
    rw (p.1, p.2) (first_rejected held _ _ 110 111 _ _ c.args.tag c.args.content.now tags_apart c.in-110.is c.in_err-read_element-in-110.field-0.0 c.in_err-read_element-in-110.ensures.rejected)

pub returns-in_err-read_element-in-111-clause-rejected : goal.returns-in_err-read_element-in-111-clause-rejected
returns-in_err-read_element-in-111-clause-rejected c =
    let p = err_from_is_err_and c.from_residual-in_err-read_element-in-111.result c.from_residual-in_err-read_element-in-111.ensures.1 in
    rw (p.1, p.2) (second_rejected held _ _ 110 111 _ _ c.args.tag c.args.content.now tags_apart c.in-111.is c.in_err-read_element-in-111.field-0.0 c.in_err-read_element-in-111.ensures.rejected)

pub returns-in_default-clause-rejected : goal.returns-in_default-clause-rejected
returns-in_default-clause-rejected c = neither_tag held _ _ 110 111 _ _ c.args.tag c.args.content.now (λ e. omega arith) (λ e. omega arith)

pub returns-in_err-read_element-in-110-clause-first_error : goal.returns-in_err-read_element-in-110-clause-first_error
returns-in_err-read_element-in-110-clause-first_error c =
    let p = err_from_is_err_and c.from_residual.result c.from_residual.ensures.1 in
    rw (p.1, p.2) (first_wrong 110 111 _ _ c.args.tag c.args.content.now c.in_err-read_element-in-110.field-0.0 c.in-110.is c.in_err-read_element-in-110.ensures.first_error)

pub returns-in_err-read_element-in-111-clause-first_error : goal.returns-in_err-read_element-in-111-clause-first_error
returns-in_err-read_element-in-111-clause-first_error c =
    let p = err_from_is_err_and c.from_residual-in_err-read_element-in-111.result c.from_residual-in_err-read_element-in-111.ensures.1 in
    rw (p.1, p.2) (second_wrong 110 111 _ _ c.args.tag c.args.content.now c.in_err-read_element-in-111.field-0.0 c.in-111.is c.in_err-read_element-in-111.ensures.first_error)

pub returns-in_default-clause-first_error : goal.returns-in_default-clause-first_error
returns-in_default-clause-first_error c = neither_wrong 110 111 _ _ c.args.tag c.args.content.now (λ e. omega arith) (λ e. omega arith)
