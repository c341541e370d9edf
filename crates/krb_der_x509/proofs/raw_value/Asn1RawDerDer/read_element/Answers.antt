use Rattle.krb_der_x509.specs.RawValue.{is_raw_first}
use Rattle.krb_der_x509.proofs.RawValues.{raw_other}
use Rattle.krb_der_x509.proofs.raw_value.Asn1RawDerDer.read_element.Goals as goal

pub returns-then-not-begins_value-clause-rejected : goal.returns-then-not-begins_value-clause-rejected
returns-then-not-begins_value-clause-rejected c = λ v hv q. raw_other is_raw_first c.args.tag c.args.content.now v c.if-not-begins_value.ensures hv q
