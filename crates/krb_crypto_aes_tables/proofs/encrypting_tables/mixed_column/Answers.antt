use Rattle.std.proofs.Common.{◌∙◌, arith, lit<}
use Rattle.krb_crypto_block.specs.SBox.{s_box}
use Rattle.krb_crypto_block.proofs.AesTables.{s_box_octet}
use Rattle.krb_crypto_aes_tables.proofs.WordTables.{t0_entry, t1_entry, t2_entry, t3_entry, xor4_same, products_sum}
use Rattle.krb_crypto_aes_tables.proofs.encrypting_tables.mixed_column.Goals as goal

pub returns : goal.returns
returns c =
    let x = c.args in
    xor4_same _ _ _ _ _ _ _ _ (t0_entry x.a (omega arith)) (t1_entry x.b (omega arith)) (t2_entry x.c (omega arith)) (t3_entry x.d (omega arith))
    ∙ products_sum 2 1 1 3 (s_box x.a) (s_box x.b) (s_box x.c) (s_box x.d)
    (lit< tt) (lit< tt) (lit< tt) (lit< tt)
    (s_box_octet x.a (omega arith)) (s_box_octet x.b (omega arith)) (s_box_octet x.c (omega arith)) (s_box_octet x.d (omega arith))
