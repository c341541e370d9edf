use Rattle.std.proofs.lemmas.Result.{err_from_is_err_and}
use Rattle.krb_der_core.specs.Encoding.{IsSequence}
use Rattle.krb_der_core.proofs.Rejections.{unwanted}
use Rattle.krb_gss_tokens.proofs.Retagging.{token_found, token_rejected}
use Rattle.krb_gss_tokens.specs.TokenLaws.{token_is}
use Rattle.std.proofs.Common.{◌∙◌}
use Rattle.krb_der_core.proofs.TaggedErrors.{tag_wrong, content_wrong}
use Rattle.krb_gss_tokens.proofs.application_tag_0.ApplicationTag0Der.read_element.Goals as goal

pub returns-then-tag-ne-TOKEN-clause-rejected : goal.returns-then-tag-ne-TOKEN-clause-rejected
returns-then-tag-ne-TOKEN-clause-rejected g c = λ v hv k. unwanted (λ (s : IsSequence (g.T.DerEncode.enc v)). Unit {0}) (λ s. s.0) 96 c.args.tag c.args.content.now c.if-tag-ne-TOKEN.true hv.1 tt (k ∙ token_is (g.T.DerEncode.enc v) hv.1.0 hv.1.1)

pub returns-in_err-sequence-clause-rejected : goal.returns-in_err-sequence-clause-rejected
returns-in_err-sequence-clause-rejected g c =
    let p = err_from_is_err_and c.from_residual.result c.from_residual.ensures.1 in
    rw (p.1, p.2, c.if-tag-ne-TOKEN.false) (token_rejected g.T.DerEncode.is_value g.T.DerEncode.enc c.args.content.now c.in_err-sequence.field-0.0 c.in_err-sequence.ensures.rejected)

pub returns-clause-found : goal.returns-clause-found
returns-clause-found g c = rw c.if-tag-ne-TOKEN.false (token_found c.args.content.now (g.T.DerEncode.enc c.in_ok-sequence.sequence) c.in_ok-sequence.ensures.found)

pub returns-then-tag-ne-TOKEN-clause-first_error : goal.returns-then-tag-ne-TOKEN-clause-first_error
returns-then-tag-ne-TOKEN-clause-first_error g c = tag_wrong (g.T.DerEncode.error 48) 96 c.args.tag c.args.content.now c.if-tag-ne-TOKEN.true

pub returns-in_err-sequence-clause-first_error : goal.returns-in_err-sequence-clause-first_error
returns-in_err-sequence-clause-first_error g c =
    let p = err_from_is_err_and c.from_residual.result c.from_residual.ensures.1 in
    rw (p.1, p.2) (content_wrong (g.T.DerEncode.error 48) 96 c.args.tag c.args.content.now c.in_err-sequence.field-0.0 c.if-tag-ne-TOKEN.false c.in_err-sequence.ensures.first_error)
