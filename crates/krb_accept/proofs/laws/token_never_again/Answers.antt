use Rattle.krb_accept.proofs.TokenLaws.{token_never_again}
use Rattle.krb_accept.proofs.laws.token_never_again.Goals as goal

pub returns : goal.returns
returns c = token_never_again _ _ _ _
