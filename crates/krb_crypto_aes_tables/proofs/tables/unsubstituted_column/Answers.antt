use Rattle.std.proofs.Common.{◌∙◌}
use Rattle.krb_crypto_block.proofs.AesWords.{word_from_bytes}
use Rattle.krb_crypto_aes_tables.proofs.tables.unsubstituted_column.Goals as goal

pub returns : goal.returns
returns c = c.from_be_bytes.ensures ∙ (rw (c.inverse_sub_byte.ensures, c.inverse_sub_byte-2.ensures, c.inverse_sub_byte-3.ensures, c.inverse_sub_byte-4.ensures) (word_from_bytes _ _ _ _))
