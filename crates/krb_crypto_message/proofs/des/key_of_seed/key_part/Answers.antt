use Rattle.krb_crypto_message.specs.RandomToKey.{key_part}
use Rattle.krb_crypto_message.proofs.des.key_of_seed.key_part.Goals as goal

pub returns : goal.returns
unfolding key_part
returns c = cc
