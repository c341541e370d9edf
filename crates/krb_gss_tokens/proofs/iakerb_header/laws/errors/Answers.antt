use Rattle.krb_gss_tokens.proofs.Sequences.{octets_laws}
use Rattle.krb_gss_tokens.proofs.iakerb_header.laws.errors.Goals as goal

pub returns-clause-one_error : goal.returns-clause-one_error
returns-clause-one_error c = λ octets e d lt f g. (octets_laws _ c.known_errors.ensures).one_error octets e d lt f g

pub returns-clause-none_where_read : goal.returns-clause-none_where_read
returns-clause-none_where_read c = λ octets e h lt f hv r. (octets_laws _ c.known_errors.ensures).no_value octets e lt f r.0 (h, hv, r.2) r.1
