use Rattle.krb_accept.proofs.TokenLaws.{token_once}
use Rattle.krb_accept.proofs.laws.token_once.Goals as goal

pub returns : goal.returns
returns c = token_once _ _ _ _
