use Rattle.std.proofs.Common.{◌+◌, ◌≤◌}
use Rattle.std.proofs.lemmas.Result.{err_from_is_err_and}
use Rattle.krb_der_core.specs.Tlv.{tlv}
use Rattle.krb_der_core.proofs.Rejections.{rejects_other}
use Rattle.krb_der.proofs.application_tag.ApplicationTagDer.read_element.Goals as goal

pub returns-in_err-sequence-clause-rejected : goal.returns-in_err-sequence-clause-rejected
returns-in_err-sequence-clause-rejected g c =
    let p = err_from_is_err_and c.from_residual.result c.from_residual.ensures.1 in
    let element = tlv c.args.tag c.args.content.now in
    rw (p.1, p.2) (rejects_other g.T.DerEncode.is_value (λ v. tlv (96 + g.row.N) (g.T.DerEncode.enc v)) (λ v. g.T.DerEncode.is_value v × (g.row.N ≤ 30)) (λ v. tlv (96 + g.row.N) (g.T.DerEncode.enc v))
    element element c.in_err-sequence.field-0.0 (λ none v hv k. none v hv.0 k) c.in_err-sequence.ensures.rejected)
