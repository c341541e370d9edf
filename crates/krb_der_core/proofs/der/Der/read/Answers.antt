use Rattle.std.proofs.Common.{get_or, sym, refl, inr, arith}
use Rattle.krb_der_core.specs.Errors.{PrefixError}
use Rattle.std.proofs.lemmas.Result.{err_from_is_err_and}
use Rattle.krb_der_core.proofs.Rejections.{none_read, wrong_first, no_element, trailing_element}
use Rattle.krb_der_core.proofs.FirstErrors.{tag_missing, tag_wrong, header_wrong, content_wrong, or_memory}
use Rattle.krb_der_core.proofs.der.Der.read.Goals as goal

pub returns-then-is_empty-clause-rejected : goal.returns-then-is_empty-clause-rejected
returns-then-is_empty-clause-rejected g c = none_read g.Self.DerEncode.is_value g.Self.DerEncode.enc g.Self.DerEncode.first g.Self.DerEncode.is_element c.args.input.now (sym c.if-is_empty.ensures)

pub returns-then-not-starts-clause-rejected : goal.returns-then-not-starts-clause-rejected
returns-then-not-starts-clause-rejected g c = wrong_first g.Self.DerEncode.is_value g.Self.DerEncode.enc g.Self.DerEncode.first g.Self.DerEncode.is_element c.args.input.now (sym c.if-is_empty.ensures) (sym c.if-not-starts.ensures)

pub returns-in_err-content-clause-rejected : goal.returns-in_err-content-clause-rejected
returns-in_err-content-clause-rejected g c =
    let p = err_from_is_err_and c.from_residual.result c.from_residual.ensures.1 in
    rw (p.1, p.2) (no_element g.Self.DerEncode.is_value g.Self.DerEncode.enc g.Self.DerEncode.first g.Self.DerEncode.is_element _ c.args.input.now c.in_err-content.field-0.0 (sym c.if-is_empty.ensures) refl c.in_err-content.ensures.rejected)

pub returns-in_err-value-clause-rejected : goal.returns-in_err-value-clause-rejected
returns-in_err-value-clause-rejected g c =
    let p = err_from_is_err_and c.from_residual-in_err-value.result c.from_residual-in_err-value.ensures.1 in
    rw (p.1, p.2) (trailing_element g.Self.DerEncode.is_value g.Self.DerEncode.enc g.Self.DerEncode.first g.Self.DerEncode.is_element _ c.in_ok-content.taken c.in_ok-content.content.now c.args.input.now c.in_err-value.field-0.0 c.in_ok-content.ensures.found c.in_err-value.ensures.rejected)

pub returns-then-is_empty-clause-first_error : goal.returns-then-is_empty-clause-first_error
returns-then-is_empty-clause-first_error g c = inr (tag_missing g.Self.DerEncode.first g.Self.DerEncode.error c.args.input.now (sym c.if-is_empty.ensures))

pub returns-then-not-starts-clause-first_error : goal.returns-then-not-starts-clause-first_error
returns-then-not-starts-clause-first_error g c = inr (tag_wrong g.Self.DerEncode.first g.Self.DerEncode.error c.args.input.now (sym c.if-is_empty.ensures) (sym c.if-not-starts.ensures))

pub returns-in_err-content-clause-first_error : goal.returns-in_err-content-clause-first_error
returns-in_err-content-clause-first_error g c =
    let p = err_from_is_err_and c.from_residual.result c.from_residual.ensures.1 in
    rw (p.1, p.2) (inr (header_wrong g.Self.DerEncode.first g.Self.DerEncode.error _ c.args.input.now c.in_err-content.field-0.0 (sym c.if-not-starts.ensures) (sym c.if-is_empty.ensures) refl c.in_err-content.ensures.first_error))

pub returns-in_err-value-clause-first_error : goal.returns-in_err-value-clause-first_error
returns-in_err-value-clause-first_error g c =
    let p = err_from_is_err_and c.from_residual-in_err-value.result c.from_residual-in_err-value.ensures.1 in
    let content = c.in_ok-content.content.now in
    rw (p.1, p.2) (or_memory (g.Self.DerEncode.error (get_or c.args.input.now 0 0) content) (PrefixError g.Self.DerEncode.first g.Self.DerEncode.error c.args.input.now) c.in_err-value.field-0.0 (content_wrong g.Self.DerEncode.first g.Self.DerEncode.error (get_or c.args.input.now 0 0) c.in_ok-content.taken content c.args.input.now c.in_err-value.field-0.0 c.in_ok-content.ensures.found (sym c.if-not-starts.ensures) (omega arith)) c.in_err-value.ensures.first_error)
