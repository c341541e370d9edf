use Rattle.krb_crypto_block.proofs.Chaining.{cbc_linked}
use Rattle.krb_crypto_block.proofs.cbc.encrypt_cbc.Goals as goal

pub returns : goal.returns
returns g c = cbc_linked g.row.SIZE c.requires.size (g.C.BlockEncrypt.encrypts c.args.cipher.now) c.args.octets.now c.chain.new.octets c.requires.whole c.chain.ensures.chained
