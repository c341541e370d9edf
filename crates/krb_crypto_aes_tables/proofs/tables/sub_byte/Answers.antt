use Rattle.std.proofs.Common.{arith}
use Rattle.krb_crypto_block.proofs.AesTables.{s_box_entry}
use Rattle.krb_crypto_aes_tables.proofs.tables.sub_byte.Goals as goal

pub returns : goal.returns
returns c = s_box_entry c.args.x (omega arith)
