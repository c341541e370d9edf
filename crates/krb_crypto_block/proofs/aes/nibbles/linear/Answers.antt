use Rattle.std.proofs.Common.{refl, bit_xor, ◌∙◌}
use Rattle.std.proofs.lemmas.Simd.{zip2_of_maps}
use Rattle.krb_crypto_block.specs.AesLanes.{permute_at, low_of, high_of}
use Rattle.krb_crypto_block.proofs.AesVectors.{indices_of, map_of_map}
use Rattle.krb_crypto_block.proofs.aes.nibbles.linear.Goals as goal

pub permuted-requires : goal.permuted-requires
permuted-requires c = indices_of low_of c.args.x _ c.fits-x.1 c.low.ensures refl

pub permuted-requires-2 : goal.permuted-requires-2
permuted-requires-2 c = indices_of high_of c.args.x _ c.fits-x.1 c.high.ensures refl

pub returns : goal.returns
returns c =
    let x = c.args.x in
    zip2_of_maps bit_xor (λ v. permute_at c.args.first (low_of v)) (λ v. permute_at c.args.second (high_of v)) x
    (c.permuted.ensures ∙ map_of_map (permute_at c.args.first) low_of x _ c.low.ensures)
    (c.permuted-2.ensures ∙ map_of_map (permute_at c.args.second) high_of x _ c.high.ensures)
