use Rattle.krb_der_core.specs.TlvLaws.{tlv_apart, field_apart, optional_apart}
use Rattle.krb_der.proofs.laws.concatenated_encodings.Goals as goal

pub returns-clause-element : goal.returns-clause-element
returns-clause-element g c = λ t u a b x y e. let s = tlv_apart t u a b x y e in (s.tag, s.content, s.rest)

pub returns-clause-field : goal.returns-clause-field
returns-clause-field g c = field_apart g.T.DerEncode.enc g.T.DerEncode.is_value g.T.DerEncode.first g.T.DerEncode.is_element g.T.DerEncode.one_value

pub returns-clause-optional : goal.returns-clause-optional
returns-clause-optional g c = λ begins is_apart. optional_apart g.T.DerEncode.enc g.T.DerEncode.is_value g.T.DerEncode.first begins g.T.DerEncode.is_element g.T.DerEncode.one_value is_apart
