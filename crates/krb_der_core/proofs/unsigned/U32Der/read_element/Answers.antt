use Rattle.std.proofs.Common.{◌<◌, ◌^◌, ℕ, ℤ, pos, refl, sym, ◌∙◌, inr}
use Rattle.std.proofs.lemmas.Result.{err_from_is_err_and}
use Rattle.krb_der_core.specs.Tlv.{tlv}
use Rattle.krb_der_core.specs.Errors.{PrimitiveError}
use Rattle.krb_der_core.specs.TlvLaws.{tlv_same}
use Rattle.krb_der_core.specs.Integer.{shortest}
use Rattle.krb_der_core.specs.IntegerLaws.{integer_one_content}
use Rattle.krb_der_core.proofs.Rejections.{rejects_other}
use Rattle.krb_der_core.proofs.FirstErrors.{or_memory}
use Rattle.krb_der_core.proofs.unsigned.U32Der.read_element.Goals as goal

pub returns-in_err-number-clause-rejected : goal.returns-in_err-number-clause-rejected
returns-in_err-number-clause-rejected c =
    let p = err_from_is_err_and c.from_residual.result c.from_residual.ensures.1 in
    let x = tlv c.args.tag c.args.content.now in
    rw (p.1, p.2) (rejects_other (λ (z : ℤ). Unit {0}) (λ z. tlv 2 (shortest z)) (λ (v : ℕ). v < 2 ^ 32) (λ v. tlv 2 (shortest (pos v))) x x c.in_err-number.field-0.0 (λ none v hv q. none (pos v) tt q) c.in_err-number.ensures.rejected)

pub returns-clause-rejected : goal.returns-clause-rejected
returns-clause-rejected c = λ v hv q.
    c.in-None.ensures v hv (integer_one_content c.in_ok-number.number (pos v) tt tt (tlv_same 2 2 (shortest c.in_ok-number.number) (shortest (pos v)) (sym c.in_ok-number.ensures.found ∙ q)))

pub returns-in_err-number-clause-first_error : goal.returns-in_err-number-clause-first_error
returns-in_err-number-clause-first_error c =
    let p = err_from_is_err_and c.from_residual.result c.from_residual.ensures.1 in
    let e = c.in_err-number.field-0.0 in
    let as_integer = PrimitiveError 2 (λ (z : ℤ). Unit {0}) shortest c.args.tag c.args.content.now in
    let as_number = PrimitiveError 2 (λ (v : ℕ). v < 2 ^ 32) (λ v. shortest (pos v)) c.args.tag c.args.content.now in
    let weaker : as_integer e → as_number e = λ f. (f.0, λ v hv k. f.1 (pos v) tt k) in
    rw (p.1, p.2) (or_memory as_integer as_number e weaker c.in_err-number.ensures.first_error)

pub returns-clause-first_error : goal.returns-clause-first_error
returns-clause-first_error c = inr (refl, returns-clause-rejected c)
