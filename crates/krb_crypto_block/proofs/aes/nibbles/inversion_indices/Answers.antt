use Rattle.std.proofs.Common.{refl, bit_xor, ◌∙◌}
use Rattle.std.proofs.lemmas.Simd.{zip2_of_maps}
use Rattle.krb_crypto_block.specs.AesLanes.{permute_at, low_of, high_of, sum_of, scaled_of, first_reciprocal, second_reciprocal}
use Rattle.krb_crypto_block.specs.declared.aes.tables.TheConstants.{INVERSE, SCALED}
use Rattle.krb_crypto_block.proofs.AesVectors.{indices_of, map_of_map}
use Rattle.krb_crypto_block.proofs.aes.nibbles.inversion_indices.Goals as goal

pub permuted-scaled-requires : goal.permuted-scaled-requires
permuted-scaled-requires c = indices_of low_of c.args.x _ c.fits-x.1 c.low-low.ensures refl

pub permuted-requires : goal.permuted-requires
permuted-requires c = indices_of high_of c.args.x _ c.fits-x.1 c.high-high.ensures refl

pub permuted-requires-2 : goal.permuted-requires-2
permuted-requires-2 c = indices_of sum_of c.args.x _ c.fits-x.1 (zip2_of_maps bit_xor high_of low_of c.args.x c.high-high.ensures c.low-low.ensures) refl

pub permuted-requires-3 : goal.permuted-requires-3
permuted-requires-3 c =
    let x = c.args.x in
    indices_of first_reciprocal x _ c.fits-x.1
    (zip2_of_maps bit_xor (λ v. permute_at INVERSE (high_of v)) scaled_of x
    (c.permuted.ensures ∙ map_of_map (permute_at INVERSE) high_of x _ c.high-high.ensures)
    (c.permuted-scaled.ensures ∙ map_of_map (permute_at SCALED) low_of x _ c.low-low.ensures)) refl

pub permuted-requires-4 : goal.permuted-requires-4
permuted-requires-4 c =
    let x = c.args.x in
    indices_of second_reciprocal x _ c.fits-x.1
    (zip2_of_maps bit_xor (λ v. permute_at INVERSE (sum_of v)) scaled_of x
    (c.permuted-2.ensures ∙ map_of_map (permute_at INVERSE) sum_of x _ (zip2_of_maps bit_xor high_of low_of x c.high-high.ensures c.low-low.ensures))
    (c.permuted-scaled.ensures ∙ map_of_map (permute_at SCALED) low_of x _ c.low-low.ensures)) refl

pub returns : goal.returns
returns c =
    let x = c.args.x in
    let sum = zip2_of_maps bit_xor high_of low_of x c.high-high.ensures c.low-low.ensures in
    let scaled = c.permuted-scaled.ensures ∙ map_of_map (permute_at SCALED) low_of x _ c.low-low.ensures in (
      zip2_of_maps bit_xor (λ v. permute_at INVERSE (first_reciprocal v)) sum_of x
          (c.permuted-3.ensures ∙ map_of_map (permute_at INVERSE) first_reciprocal x _
          (zip2_of_maps bit_xor (λ v. permute_at INVERSE (high_of v)) scaled_of x
          (c.permuted.ensures ∙ map_of_map (permute_at INVERSE) high_of x _ c.high-high.ensures) scaled))
          sum,
      zip2_of_maps bit_xor (λ v. permute_at INVERSE (second_reciprocal v)) high_of x
          (c.permuted-4.ensures ∙ map_of_map (permute_at INVERSE) second_reciprocal x _
          (zip2_of_maps bit_xor (λ v. permute_at INVERSE (sum_of v)) scaled_of x
          (c.permuted-2.ensures ∙ map_of_map (permute_at INVERSE) sum_of x _ sum) scaled))
          c.high-high.ensures,
    )
