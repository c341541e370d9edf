use Rattle.krb_crypto_block.proofs.DesChoice.{columns_are}
use Rattle.krb_crypto_block.proofs.des.key_schedule.first_choice.Goals as goal

pub returns-clause-value : goal.returns-clause-value
returns-clause-value c = columns_are c.args.key c.permute_first-columns.result c.permute_first-columns.ensures
