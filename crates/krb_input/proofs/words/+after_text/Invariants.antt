use Rattle.std.proofs.Common.{length}
use Rattle.krb_input.proofs.words.+after_text.Given as goal

abbrev pub decreases-after_text : goal.decreases-after_text
decreases-after_text l = length l.text.now
