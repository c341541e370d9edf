use Rattle.krb_crypto_block.proofs.FoldWords.{word_left, word_left_lt}
use Rattle.krb_crypto_block.proofs.nfold.turn_left.Goals as goal

pub overflow_add-result : goal.overflow_add-result
overflow_add-result c = record { fits = word_left_lt c.args.word c.args.bits c.requires.few c.ranges.word.fits }

pub returns-clause-value : goal.returns-clause-value
returns-clause-value c = word_left c.args.word c.args.bits c.requires.few
