use Rattle.std.proofs.Common.{length}
use Rattle.krb_input.proofs.words.+after_word.Given as goal

abbrev pub decreases-after_word : goal.decreases-after_word
decreases-after_word l = length l.word.now
