use Rattle.krb_gss_tokens.specs.TokenLaws.{token_is}
use Rattle.krb_gss_tokens.proofs.laws.tokens.Goals as goal

pub returns-clause-content : goal.returns-clause-content
returns-clause-content g c = λ v content e. token_is (g.T.DerEncode.enc v) content e
