use Rattle.std.proofs.Common.{ℕ, ◌/◌, ◌^◌}
use Rattle.std.proofs.lemmas.Simd.{zip2_splat}
use Rattle.krb_crypto_block.proofs.aes.nibbles.high.Goals as goal

pub returns : goal.returns
returns c = zip2_splat (λ (a b : ℕ). a / 2 ^ b) c.args.x 16 4 c.fits-x.0
