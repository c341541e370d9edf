use Rattle.krb_c_calls.proofs.ReadAgain.{read_again}
use Rattle.krb_c_calls.proofs.frames.laws.tokens.Goals as goal

pub returns : goal.returns
returns c = read_again
