use Rattle.std.proofs.Common.{ℕ, ◌/◌, ◌<◌, length, refl, ap, arith}
use Rattle.krb_crypto_block.specs.Fold.{gcd, common_below}
use Rattle.krb_crypto_block.proofs.FoldDivisors.{gcd_pos}
use Rattle.krb_crypto_block.proofs.nfold.word_of.Goals as goal

pub fold_to_word-requires-clause-turns : goal.fold_to_word-requires-clause-turns
unfolding gcd common_below
fold_to_word-requires-clause-turns c = refl

pub nonzero_div-turns : goal.nonzero_div-turns
nonzero_div-turns c = let pos : 0 < gcd 16 (length c.args.input.now) = gcd_pos 16 (length c.args.input.now) (omega arith) in omega (arith, pos, c.greatest_common_divisor-turns.ensures)

pub fold_to_word-requires-2-clause-turns : goal.fold_to_word-requires-2-clause-turns
fold_to_word-requires-2-clause-turns c = ap (λ (g : ℕ). 16 / g) c.greatest_common_divisor-turns.ensures
