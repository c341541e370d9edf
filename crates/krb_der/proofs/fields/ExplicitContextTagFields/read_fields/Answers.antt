use Rattle.std.proofs.Common.{◌+◌, eqb}
use Rattle.krb_der_core.specs.Tlv.{tlv}
use Rattle.krb_der_core.specs.TlvLaws.{tagged_element, tagged_one_value}
use Rattle.krb_der.proofs.FieldSteps.{field_read}
use Rattle.krb_der.proofs.fields.ExplicitContextTagFields.read_fields.Goals as goal

pub returns-clause-reads : goal.returns-clause-reads
returns-clause-reads g c = λ follow is_apart w y h hy q.
    let tag = 160 + g.N.TagNumber.number in
    let enc = g.T.DerEncode.enc in
    field_read (λ v. tlv tag (enc v)) g.T.DerEncode.is_value (λ t. eqb t tag) (λ v h. tagged_element tag (enc v)) (tagged_one_value tag g.T.DerEncode.is_value enc g.T.DerEncode.one_value) c.in_ok-value.value c.in_ok-value.taken c.args.input.now w y c.in_ok-value.ensures.valid c.in_ok-value.ensures.found h q
