use Rattle.krb_der.proofs.FieldSteps.{field_read}
use Rattle.krb_der_x509.proofs.untagged.FieldFields.read_fields.Goals as goal

pub returns-clause-reads : goal.returns-clause-reads
returns-clause-reads g c = λ follow reported w y h hy q.
    field_read g.T.DerEncode.enc g.T.DerEncode.is_value g.T.DerEncode.first g.T.DerEncode.is_element g.T.DerEncode.one_value c.in_ok-value.value c.in_ok-value.taken c.args.input.now w y c.in_ok-value.ensures.valid c.in_ok-value.ensures.found h q
