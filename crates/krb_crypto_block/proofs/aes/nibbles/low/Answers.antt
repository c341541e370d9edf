use Rattle.std.proofs.Common.{bit_and}
use Rattle.std.proofs.lemmas.Simd.{zip2_splat}
use Rattle.krb_crypto_block.proofs.aes.nibbles.low.Goals as goal

pub returns : goal.returns
returns c = zip2_splat bit_and c.args.x 16 15 c.fits-x.0
