use Rattle.std.proofs.Common.{◌≡◌, ℕ, ◌+◌, sym, ap, ◌∙◌}
use Rattle.std.proofs.lemmas.Result.{err_from_is_err_and}
use Rattle.krb_der_core.specs.Tlv.{tlv}
use Rattle.krb_der_core.proofs.Rejections.{unwanted}
use Rattle.krb_der_x509.proofs.Retagging.{retagged_rejected, retagged_found}
use Rattle.krb_der_core.proofs.TaggedErrors.{tag_wrong, content_wrong}
use Rattle.krb_der_x509.proofs.implicit.ImplicitContextTagDer.read_element.Goals as goal

pub returns-then-tag-get-clause-rejected : goal.returns-then-tag-get-clause-rejected
returns-then-tag-get-clause-rejected g c = unwanted (λ v. g.T.DerEncode.is_value v × (g.T.DerEncode.enc v ≡ tlv g.T.DerPrimitive.tag (g.T.DerPrimitive.inner v))) g.T.DerPrimitive.inner (128 + g.N.TagNumber.number) c.args.tag c.args.content.now (λ e. c.if-tag-get.true (e ∙ ap (λ (n : ℕ). 128 + n) (sym c.get.ensures.value)))

pub returns-in_err-value-clause-rejected : goal.returns-in_err-value-clause-rejected
returns-in_err-value-clause-rejected g c =
    let p = err_from_is_err_and c.from_residual.result c.from_residual.ensures.1 in
    let same : c.args.tag ≡ (128 + g.N.TagNumber.number) = c.if-tag-get.false ∙ ap (λ (n : ℕ). 128 + n) c.get.ensures.value in
    rw (p.1, p.2, same) (retagged_rejected (128 + g.N.TagNumber.number) g.T.DerPrimitive.tag g.T.DerEncode.is_value g.T.DerEncode.enc g.T.DerPrimitive.inner c.args.content.now c.in_err-value.field-0.0 (rw c.tag.ensures at c.in_err-value.ensures.rejected))

pub returns-clause-found : goal.returns-clause-found
returns-clause-found g c =
    let same : c.args.tag ≡ (128 + g.N.TagNumber.number) = c.if-tag-get.false ∙ ap (λ (n : ℕ). 128 + n) c.get.ensures.value in
    rw same (retagged_found (128 + g.N.TagNumber.number) g.T.DerPrimitive.tag c.args.content.now (g.T.DerPrimitive.inner c.in_ok-value.value) (g.T.DerEncode.enc c.in_ok-value.value) (rw c.tag.ensures at c.in_ok-value.ensures.found) (g.met.T.DerPrimitive.is_primitive c.in_ok-value.value))

pub returns-then-tag-get-clause-first_error : goal.returns-then-tag-get-clause-first_error
returns-then-tag-get-clause-first_error g c = tag_wrong (g.T.DerEncode.error g.T.DerPrimitive.tag) (128 + g.N.TagNumber.number) c.args.tag c.args.content.now (λ e. c.if-tag-get.true (e ∙ ap (λ (n : ℕ). 128 + n) (sym c.get.ensures.value)))

pub returns-in_err-value-clause-first_error : goal.returns-in_err-value-clause-first_error
returns-in_err-value-clause-first_error g c =
    let p = err_from_is_err_and c.from_residual.result c.from_residual.ensures.1 in
    let same : c.args.tag ≡ (128 + g.N.TagNumber.number) = c.if-tag-get.false ∙ ap (λ (n : ℕ). 128 + n) c.get.ensures.value in
    rw (p.1, p.2) (content_wrong (g.T.DerEncode.error g.T.DerPrimitive.tag) (128 + g.N.TagNumber.number) c.args.tag c.args.content.now c.in_err-value.field-0.0 same (rw c.tag.ensures at c.in_err-value.ensures.first_error))
