use Rattle.std.proofs.Common.{◌∙◌, ap, ℕ, List, slice_index}
use Rattle.krb_crypto_block.specs.Aes.{product_of_columns}
use Rattle.krb_crypto_block.specs.InverseCipher.{unmix_polynomial}
use Rattle.krb_crypto_block.specs.AesWords.{word_of}
use Rattle.krb_crypto_block.proofs.AesTables.{inverse_s_box_undoes}
use Rattle.krb_crypto_block.proofs.AesWords.{same4}
use Rattle.krb_crypto_block.proofs.AesWordKeys.{bytes_of_four}
use Rattle.krb_crypto_aes_tables.proofs.key_expansion.unmixed.Goals as goal

pub returns : goal.returns
returns c = λ t octets e.
    let bytes = c.to_be_bytes.ensures ∙ bytes_of_four t c.args.word octets e in
    rw (c.sub_byte.ensures, c.sub_byte-2.ensures, c.sub_byte-3.ensures, c.sub_byte-4.ensures, bytes) at c.unmixed_column.ensures
    ∙ ap (λ (x : List ℕ). word_of (product_of_columns unmix_polynomial x))
    (same4 _ _ _ _ _ _ _ _ (inverse_s_box_undoes (slice_index t 0) (octets 0)) (inverse_s_box_undoes (slice_index t 1) (octets 1))
    (inverse_s_box_undoes (slice_index t 2) (octets 2)) (inverse_s_box_undoes (slice_index t 3) (octets 3)))
