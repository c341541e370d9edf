use Rattle.std.proofs.Common.{arith}
use Rattle.krb_crypto_block.proofs.AesTables.{inverse_s_box_entry}
use Rattle.krb_crypto_aes_tables.proofs.tables.inverse_sub_byte.Goals as goal

pub returns : goal.returns
returns c = inverse_s_box_entry c.args.x (omega arith)
