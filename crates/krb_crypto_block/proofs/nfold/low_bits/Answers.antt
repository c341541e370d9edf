use Rattle.krb_crypto_block.proofs.FoldWords.{low_mask}
use Rattle.krb_crypto_block.proofs.nfold.low_bits.Goals as goal

pub returns : goal.returns
returns c = low_mask c.args.word c.args.bits c.requires
