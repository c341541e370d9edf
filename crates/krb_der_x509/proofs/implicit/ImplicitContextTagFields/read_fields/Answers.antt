use Rattle.std.proofs.Common.{◌≡◌, ◌+◌, eqb}
use Rattle.krb_der_core.specs.Tlv.{tlv}
use Rattle.krb_der_core.specs.TlvLaws.{tagged_element}
use Rattle.krb_der.proofs.FieldSteps.{field_read}
use Rattle.krb_der_x509.specs.ImplicitLaws.{retagged_one_value}
use Rattle.krb_der_x509.proofs.implicit.ImplicitContextTagFields.read_fields.Goals as goal

pub returns-clause-reads : goal.returns-clause-reads
returns-clause-reads g c = λ follow reported w y h hy q.
    let tag = 128 + g.N.TagNumber.number in
    let p = g.T.DerPrimitive in
    let d = g.T.DerEncode in
    field_read (λ v. tlv tag (p.inner v)) (λ v. d.is_value v × (d.enc v ≡ tlv p.tag (p.inner v))) (λ t. eqb t tag) (λ v h. tagged_element tag (p.inner v)) (retagged_one_value tag p.tag d.is_value d.enc p.inner d.one_value) c.in_ok-value.value c.in_ok-value.taken c.args.input.now w y c.in_ok-value.ensures.valid c.in_ok-value.ensures.found h q
