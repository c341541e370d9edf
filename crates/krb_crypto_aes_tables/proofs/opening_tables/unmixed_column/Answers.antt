use Rattle.std.proofs.Common.{◌∙◌, arith, lit<}
use Rattle.krb_crypto_block.specs.InverseCipher.{inverse_s_box}
use Rattle.krb_crypto_block.proofs.AesTables.{inverse_s_box_octet}
use Rattle.krb_crypto_aes_tables.proofs.WordTables.{d0_entry, d1_entry, d2_entry, d3_entry, xor4_same, products_sum}
use Rattle.krb_crypto_aes_tables.proofs.opening_tables.unmixed_column.Goals as goal

pub returns : goal.returns
returns c =
    let x = c.args in
    xor4_same _ _ _ _ _ _ _ _ (d0_entry x.a (omega arith)) (d1_entry x.b (omega arith)) (d2_entry x.c (omega arith)) (d3_entry x.d (omega arith))
    ∙ products_sum 14 9 13 11 (inverse_s_box x.a) (inverse_s_box x.b) (inverse_s_box x.c) (inverse_s_box x.d)
    (lit< tt) (lit< tt) (lit< tt) (lit< tt)
    (inverse_s_box_octet x.a (omega arith)) (inverse_s_box_octet x.b (omega arith)) (inverse_s_box_octet x.c (omega arith)) (inverse_s_box_octet x.d (omega arith))
