use Rattle.std.proofs.Common.{inr, refl}
use Rattle.std.proofs.lemmas.Result.{IfErr-weaker}
use Rattle.krb_der_core.proofs.Rejections.{unwanted, no_content}
use Rattle.krb_der_core.proofs.FirstErrors.{primitive_errors}
use Rattle.krb_der_core.proofs.content.read_tagged.Goals as goal

pub returns-then-tag-wanted-clause-rejected : goal.returns-then-tag-wanted-clause-rejected
returns-then-tag-wanted-clause-rejected g c = unwanted g.C.Content.has_content g.C.Content.octets c.args.wanted c.args.tag c.args.content.now c.if-tag-wanted.true

pub returns-clause-rejected : goal.returns-clause-rejected
returns-clause-rejected g c =
    rw c.if-tag-wanted.false (IfErr-weaker c.read_content.result _ _ (λ e r. no_content g.C.Content.has_content g.C.Content.octets c.args.wanted c.args.content.now e r) c.read_content.ensures.rejected)

pub returns-then-tag-wanted-clause-first_error : goal.returns-then-tag-wanted-clause-first_error
returns-then-tag-wanted-clause-first_error g c = inr (refl, unwanted g.C.Content.has_content g.C.Content.octets c.args.wanted c.args.tag c.args.content.now c.if-tag-wanted.true)

pub returns-clause-first_error : goal.returns-clause-first_error
returns-clause-first_error g c =
    rw c.if-tag-wanted.false (primitive_errors g.C.Content.has_content g.C.Content.octets c.args.wanted c.args.content.now c.read_content.result c.read_content.ensures.rejected c.read_content.ensures.error)
