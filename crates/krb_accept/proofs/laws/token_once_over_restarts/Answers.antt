use Rattle.krb_accept.proofs.TokenLaws.{token_over_restarts}
use Rattle.krb_accept.proofs.laws.token_once_over_restarts.Goals as goal

pub returns : goal.returns
returns c = token_over_restarts _ _ _ _
