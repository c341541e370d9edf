use Rattle.krb_crypto_block.proofs.DesTriple.{AreInverse-ede3}
use Rattle.krb_crypto_block.proofs.des.DesKey.undoes.Goals as goal

pub returns : goal.returns
returns c = AreInverse-ede3 c.args.self.now
