use Rattle.std.proofs.Common.{◌<◌, ◌^◌, length, drop, arith, refl, sym, subst}
use Rattle.std.proofs.lemmas.Result.{err_from_is_err_and}
use Rattle.krb_der_core.proofs.TaggedErrors.{content_wrong}
use Rattle.krb_gss_tokens.proofs.Readings.{content_decides, content_found, known_values, only_memory}
use Rattle.krb_gss_tokens.proofs.iakerb_header.reading.read_content.Goals as goal

pub returns-in_err-fields-clause-reads : goal.returns-in_err-fields-clause-reads
returns-in_err-fields-clause-reads c =
    let p = err_from_is_err_and c.from_residual.result c.from_residual.ensures.1 in
    let lt : length c.args.content.now < 2 ^ 64 = omega arith in
    rw (p.1, p.2) (only_memory _ c.known_errors.ensures c.args.content.now c.in_err-fields.field-0.0 lt c.in_err-fields.ensures.first_error)

pub returns-in_err-fields-clause-first_error : goal.returns-in_err-fields-clause-first_error
returns-in_err-fields-clause-first_error c =
    let p = err_from_is_err_and c.from_residual.result c.from_residual.ensures.1 in
    rw (p.1, p.2) (content_wrong _ 48 48 c.args.content.now c.in_err-fields.field-0.0 refl c.in_err-fields.ensures.first_error)

pub returns-clause-found : goal.returns-clause-found
returns-clause-found c = content_found c.from_fields.result c.in_ok-fields.fields c.args.content.now (drop c.in_ok-fields.field-0-1 c.args.content.now) c.from_fields.ensures c.in_ok-fields.ensures.found.prefix c.in_ok-fields.ensures.ends

pub returns-clause-reads : goal.returns-clause-reads
returns-clause-reads c = λ h hv r.
    let valid = subst known_values (sym c.from_fields.ensures) c.in_ok-fields.ensures.valid in
    content_decides c.args.content.now c.args.content.now c.from_fields.result h valid.1 hv.1 valid.2 hv.2 (returns-clause-found c) r refl
