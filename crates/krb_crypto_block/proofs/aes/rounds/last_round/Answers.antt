use Rattle.krb_crypto_block.proofs.AesRoundLanes.{last_round_is}
use Rattle.krb_crypto_block.proofs.aes.rounds.last_round.Goals as goal

pub returns : goal.returns
returns c = λ w st n is held has. last_round_is w st n is c.args.x c.args.key _ held has c.substituted.ensures
