use Rattle.krb_accept.proofs.TokenLaws.{token_once_in_any_form}
use Rattle.krb_accept.proofs.laws.token_once_in_any_form.Goals as goal

pub returns : goal.returns
returns c = token_once_in_any_form _ _ _ _
