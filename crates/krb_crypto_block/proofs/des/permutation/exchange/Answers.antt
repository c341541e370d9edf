use Rattle.krb_crypto_block.proofs.DesPlaces.{exchange_bit}
use Rattle.krb_crypto_block.proofs.des.permutation.exchange.Goals as goal

pub returns : goal.returns
returns c = λ k lt. exchange_bit c.args.x c.args.shift c.args.mask k lt c.requires.room c.requires.apart
