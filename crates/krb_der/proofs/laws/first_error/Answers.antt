use Rattle.krb_der_core.specs.ErrorLaws.{prefix_laws, value_laws}
use Rattle.krb_der.proofs.laws.first_error.Goals as goal

pub returns-clause-prefix : goal.returns-clause-prefix
returns-clause-prefix g c = λ octets e d lt f h. (prefix_laws g.T.DerEncode.is_value g.T.DerEncode.enc g.T.DerEncode.first g.T.DerEncode.is_element g.T.DerEncode.error g.T.DerEncode.error_laws g.T.DerEncode.one_value).one_error octets e d lt f h

pub returns-clause-read : goal.returns-clause-read
returns-clause-read g c = λ octets e v rest lt f hv q. (prefix_laws g.T.DerEncode.is_value g.T.DerEncode.enc g.T.DerEncode.first g.T.DerEncode.is_element g.T.DerEncode.error g.T.DerEncode.error_laws g.T.DerEncode.one_value).no_value octets e lt f v rest hv q tt

pub returns-clause-all : goal.returns-clause-all
returns-clause-all g c = λ octets e d lt f h. (value_laws g.T.DerEncode.is_value g.T.DerEncode.enc g.T.DerEncode.first g.T.DerEncode.is_element g.T.DerEncode.error g.T.DerEncode.error_laws g.T.DerEncode.one_value).one_error octets e d lt f h

pub returns-clause-whole : goal.returns-clause-whole
returns-clause-whole g c = λ octets e v lt f hv q. (value_laws g.T.DerEncode.is_value g.T.DerEncode.enc g.T.DerEncode.first g.T.DerEncode.is_element g.T.DerEncode.error g.T.DerEncode.error_laws g.T.DerEncode.one_value).no_value octets e lt f v hv q
