use Rattle.std.proofs.lemmas.Result.{err_from_is_err_and}
use Rattle.krb_der_x509.specs.ObjectIdentifier.{arcs_content, IsArcs}
use Rattle.krb_der_core.proofs.Rejections.{unwanted, no_content}
use Rattle.krb_der_core.proofs.TaggedErrors.{tag_wrong, content_wrong}
use Rattle.krb_der_x509.specs.ObjectIdentifierErrors.{ArcsError}
use Rattle.krb_der_x509.proofs.object_identifier.ObjectIdentifierAsn1Der.read_element.Goals as goal

pub returns-then-tag-ne-OBJECT_IDENTIFIER-clause-rejected : goal.returns-then-tag-ne-OBJECT_IDENTIFIER-clause-rejected
returns-then-tag-ne-OBJECT_IDENTIFIER-clause-rejected c = unwanted IsArcs arcs_content 6 c.args.tag c.args.content.now c.if-tag-ne-OBJECT_IDENTIFIER.true

pub returns-in_err-arcs-clause-rejected : goal.returns-in_err-arcs-clause-rejected
returns-in_err-arcs-clause-rejected c =
    let p = err_from_is_err_and c.from_residual.result c.from_residual.ensures.1 in
    rw (p.1, p.2, c.if-tag-ne-OBJECT_IDENTIFIER.false) (no_content IsArcs arcs_content 6 c.args.content.now c.in_err-arcs.field-0.0 c.in_err-arcs.ensures.rejected)

pub returns-then-tag-ne-OBJECT_IDENTIFIER-clause-first_error : goal.returns-then-tag-ne-OBJECT_IDENTIFIER-clause-first_error
returns-then-tag-ne-OBJECT_IDENTIFIER-clause-first_error c = tag_wrong ArcsError 6 c.args.tag c.args.content.now c.if-tag-ne-OBJECT_IDENTIFIER.true

pub returns-in_err-arcs-clause-first_error : goal.returns-in_err-arcs-clause-first_error
returns-in_err-arcs-clause-first_error c =
    let p = err_from_is_err_and c.from_residual.result c.from_residual.ensures.1 in
    rw (p.1, p.2) (content_wrong ArcsError 6 c.args.tag c.args.content.now c.in_err-arcs.field-0.0 c.if-tag-ne-OBJECT_IDENTIFIER.false c.in_err-arcs.ensures.first_error)
