use Rattle.std.specs.List.{flat_map, AllByRecursion}
use Rattle.std.proofs.lemmas.Result.{err_from_is_err_and}
use Rattle.krb_der_core.proofs.Rejections.{unwanted, no_content}
use Rattle.krb_der_core.specs.Errors.{PrefixError, RowError}
use Rattle.krb_der_core.proofs.TaggedErrors.{tag_wrong, content_wrong}
use Rattle.krb_der.proofs.sequence_of.Asn1SequenceOfDer.read_element.Goals as goal

pub returns-then-tag-ne-SEQUENCE-clause-rejected : goal.returns-then-tag-ne-SEQUENCE-clause-rejected
returns-then-tag-ne-SEQUENCE-clause-rejected g c = unwanted (AllByRecursion g.T.DerEncode.is_value) (flat_map g.T.DerEncode.enc) 48 c.args.tag c.args.content.now c.if-tag-ne-SEQUENCE.true

pub returns-in_err-read_items-clause-rejected : goal.returns-in_err-read_items-clause-rejected
returns-in_err-read_items-clause-rejected g c =
    let p = err_from_is_err_and c.from_residual.result c.from_residual.ensures.1 in
    rw (p.1, p.2, c.if-tag-ne-SEQUENCE.false) (no_content (AllByRecursion g.T.DerEncode.is_value) (flat_map g.T.DerEncode.enc) 48 c.args.content.now c.in_err-read_items.field-0.0 c.in_err-read_items.ensures.rejected)

pub returns-then-tag-ne-SEQUENCE-clause-first_error : goal.returns-then-tag-ne-SEQUENCE-clause-first_error
returns-then-tag-ne-SEQUENCE-clause-first_error g c = tag_wrong (RowError g.T.DerEncode.is_value g.T.DerEncode.enc (PrefixError g.T.DerEncode.first g.T.DerEncode.error)) 48 c.args.tag c.args.content.now c.if-tag-ne-SEQUENCE.true

pub returns-in_err-read_items-clause-first_error : goal.returns-in_err-read_items-clause-first_error
returns-in_err-read_items-clause-first_error g c =
    let p = err_from_is_err_and c.from_residual.result c.from_residual.ensures.1 in
    rw (p.1, p.2) (content_wrong (RowError g.T.DerEncode.is_value g.T.DerEncode.enc (PrefixError g.T.DerEncode.first g.T.DerEncode.error)) 48 c.args.tag c.args.content.now c.in_err-read_items.field-0.0 c.if-tag-ne-SEQUENCE.false c.in_err-read_items.ensures.first_error)
