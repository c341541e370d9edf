use Rattle.krb_crypto_block.proofs.AesVectors.{permuted_ok, permuted_is}
use Rattle.krb_crypto_block.proofs.aes.nibbles.shuffled.Goals as goal

pub swizzle : goal.swizzle
swizzle c = permuted_ok c.args.at c.fits-at.0 c.requires

pub returns : goal.returns
returns c = permuted_is c.args.x c.args.at c.fits-at.0
