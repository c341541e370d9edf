use Rattle.krb_gss_tokens.specs.contracts.iakerb_header.messages.header.IAKerbHeaderDerEncode.TheImpl.{ghosts}
use Rattle.krb_gss_tokens.proofs.KrbTokens.{no_rejection_of}
use Rattle.krb_gss_tokens.proofs.Proxies.{no_rejection}
use Rattle.krb_gss_tokens.proofs.laws.none_where_read.Goals as goal

pub returns-clause-krb_message : goal.returns-clause-krb_message
returns-clause-krb_message g c = λ m input rest e lt hm q r. no_rejection_of g.T.DerEncode m.krb5_oid m.krb5_token_id m.krb_msg input rest e lt hm q r

pub returns-clause-proxy_message : goal.returns-clause-proxy_message
returns-clause-proxy_message g c = λ m input content rest e lt hh hv q p r. no_rejection ghosts g.T.DerEncode m.header hh m.krb_msg hv e input content rest lt q p r
