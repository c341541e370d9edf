use Rattle.krb_crypto_block.proofs.AesNextKeys.{own_octets}
use Rattle.krb_crypto_block.proofs.aes.round_keys.own_key.Goals as goal

pub returns : goal.returns
returns c = own_octets c.args.key.now c.args.n c.requires
