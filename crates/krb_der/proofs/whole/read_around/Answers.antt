use Rattle.krb_der_core.proofs.Rejections.{unwanted}
use Rattle.krb_der.proofs.WholeInput.{around_rejected}
use Rattle.krb_der_core.specs.Errors.{ValueError}
use Rattle.krb_der_core.proofs.TaggedErrors.{tag_wrong, contents_wrong}
use Rattle.krb_der.proofs.whole.read_around.Goals as goal

pub returns-then-tag-wanted-clause-rejected : goal.returns-then-tag-wanted-clause-rejected
returns-then-tag-wanted-clause-rejected g c = unwanted g.T.DerEncode.is_value g.T.DerEncode.enc c.args.wanted c.args.tag c.args.content.now c.if-tag-wanted.true

pub returns-clause-rejected : goal.returns-clause-rejected
returns-clause-rejected g c =
    rw c.if-tag-wanted.false (around_rejected g.T.DerEncode.is_value g.T.DerEncode.enc c.args.wanted c.args.content.now c.from_bytes.result c.from_bytes.ensures.reads c.from_bytes.ensures.no_device)

pub returns-then-tag-wanted-clause-first_error : goal.returns-then-tag-wanted-clause-first_error
returns-then-tag-wanted-clause-first_error g c = tag_wrong (ValueError g.T.DerEncode.is_value g.T.DerEncode.enc g.T.DerEncode.first g.T.DerEncode.error) c.args.wanted c.args.tag c.args.content.now c.if-tag-wanted.true

pub returns-clause-first_error : goal.returns-clause-first_error
returns-clause-first_error g c = contents_wrong (ValueError g.T.DerEncode.is_value g.T.DerEncode.enc g.T.DerEncode.first g.T.DerEncode.error) c.args.wanted c.args.tag c.args.content.now c.from_bytes.result c.if-tag-wanted.false c.from_bytes.ensures.first_error
