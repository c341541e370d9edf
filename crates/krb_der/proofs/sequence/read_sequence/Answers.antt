use Rattle.std.proofs.lemmas.Result.{err_from_is_err_and}
use Rattle.krb_der_core.proofs.Rejections.{unwanted, no_content, parts_rejected}
use Rattle.krb_der_core.specs.Errors.{WholeError}
use Rattle.krb_der_core.proofs.TaggedErrors.{tag_wrong, content_wrong}
use Rattle.krb_der.proofs.sequence.read_sequence.Goals as goal

pub returns-then-tag-ne-SEQUENCE-clause-rejected : goal.returns-then-tag-ne-SEQUENCE-clause-rejected
returns-then-tag-ne-SEQUENCE-clause-rejected g c =
    unwanted (λ v. g.S.Fields.Fields.are_values (g.S.Sequence.fields v)) (λ v. g.S.Fields.Fields.octets (g.S.Sequence.fields v)) 48 c.args.tag c.args.content.now c.if-tag-ne-SEQUENCE.true

pub returns-in_err-parts-clause-rejected : goal.returns-in_err-parts-clause-rejected
returns-in_err-parts-clause-rejected g c =
    let p = err_from_is_err_and c.from_residual.result c.from_residual.ensures.1 in
    let content = c.args.content.now in
    let none = parts_rejected g.S.Sequence.fields g.S.Fields.Fields.are_values g.S.Fields.Fields.octets content c.in_err-parts.field-0.0 c.in_err-parts.ensures.rejected in
    rw (p.1, p.2, c.if-tag-ne-SEQUENCE.false) (no_content (λ v. g.S.Fields.Fields.are_values (g.S.Sequence.fields v)) (λ v. g.S.Fields.Fields.octets (g.S.Sequence.fields v)) 48 content c.in_err-parts.field-0.0 none)

pub returns-then-tag-ne-SEQUENCE-clause-first_error : goal.returns-then-tag-ne-SEQUENCE-clause-first_error
returns-then-tag-ne-SEQUENCE-clause-first_error g c = tag_wrong (WholeError g.S.Fields.Fields.are_values g.S.Fields.Fields.octets g.S.Fields.Fields.ends g.S.Fields.Fields.error) 48 c.args.tag c.args.content.now c.if-tag-ne-SEQUENCE.true

pub returns-in_err-parts-clause-first_error : goal.returns-in_err-parts-clause-first_error
returns-in_err-parts-clause-first_error g c =
    let p = err_from_is_err_and c.from_residual.result c.from_residual.ensures.1 in
    rw (p.1, p.2) (content_wrong (WholeError g.S.Fields.Fields.are_values g.S.Fields.Fields.octets g.S.Fields.Fields.ends g.S.Fields.Fields.error) 48 c.args.tag c.args.content.now c.in_err-parts.field-0.0 c.if-tag-ne-SEQUENCE.false c.in_err-parts.ensures.first_error)
