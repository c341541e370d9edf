use Rattle.krb_gss_tokens.specs.contracts.iakerb_header.messages.header.IAKerbHeaderDerEncode.TheImpl.{ghosts}
use Rattle.krb_gss_tokens.proofs.OneErrors.{one_krb_message, one_proxy_message}
use Rattle.krb_gss_tokens.proofs.laws.one_error.Goals as goal

pub returns-clause-krb_message : goal.returns-clause-krb_message
returns-clause-krb_message g c = one_krb_message g.T.DerEncode

pub returns-clause-proxy_message : goal.returns-clause-proxy_message
returns-clause-proxy_message g c = one_proxy_message ghosts g.T.DerEncode
