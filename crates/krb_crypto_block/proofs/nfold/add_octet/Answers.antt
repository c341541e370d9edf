use Rattle.krb_crypto_block.proofs.FoldWorth.{worth, sum_value}
use Rattle.krb_crypto_block.proofs.nfold.add_octet.Goals as goal

pub returns-clause-value : goal.returns-clause-value
unfolding worth
returns-clause-value c = sum_value c.args.sum.now c.args.place c.args.octet c.args.carry c.requires.inside
