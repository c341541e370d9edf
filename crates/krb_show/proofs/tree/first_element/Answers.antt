use Rattle.krb_show.proofs.Trees.{long_tag, rejected}
use Rattle.krb_show.proofs.tree.first_element.Goals as goal

pub returns-then-tag-eq31-clause-rejected : goal.returns-then-tag-eq31-clause-rejected
returns-then-tag-eq31-clause-rejected c = long_tag c.args.octets.now c.requires c.if-tag-eq31.true

pub returns-in-Err-clause-rejected : goal.returns-in-Err-clause-rejected
returns-in-Err-clause-rejected c = rejected c.args.octets.now c.in-Err.why c.requires c.if-tag-eq31.false c.in-Err.ensures.first_error
