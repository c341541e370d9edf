use Rattle.std.proofs.Common.{◌≡◌, ◌-◌, ◌*◌, ◌%◌, ◌<◌, ◌^◌}
use Rattle.krb_crypto_block.specs.Fold.{number, concatenated}
use Rattle.krb_crypto_block.proofs.FoldWords.{Left}
use Rattle.krb_crypto_block.proofs.nfold.fold_to_word.Given as goal

abbrev pub invariant-turns : goal.invariant-turns
invariant-turns l = record {
  shift : l.shift ≡ 13 * l.turn % l.bits;
  below : l.sum < 2 ^ 128;
  left : Left (2 ^ 128 - 1) (concatenated (number l.input) (8 * l.size) l.turn) l.sum;
}
