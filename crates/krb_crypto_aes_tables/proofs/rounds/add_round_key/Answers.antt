use Rattle.std.proofs.Common.{◌*◌, ◌+◌, ◌∙◌, ap, ℕ, bit_xor, slice_index}
use Rattle.krb_crypto_block.proofs.AesUndoing.{state_of_block}
use Rattle.krb_crypto_block.proofs.AesWords.{word_from_bytes}
use Rattle.krb_crypto_aes_tables.proofs.WordRounds.{added_is}
use Rattle.krb_crypto_aes_tables.proofs.rounds.add_round_key.Goals as goal

pub returns : goal.returns
returns c = λ w octets has block.
    let k = c.args.keys.now in
    let n = c.args.n in
    added_is w k n octets c.args.block _ _ _ _ has (state_of_block c.args.block block)
    (ap (λ (x : ℕ). bit_xor x (slice_index k (4 * n))) (c.from_be_bytes.ensures ∙ word_from_bytes _ _ _ _))
    (ap (λ (x : ℕ). bit_xor x (slice_index k (4 * n + 1))) (c.from_be_bytes-2.ensures ∙ word_from_bytes _ _ _ _))
    (ap (λ (x : ℕ). bit_xor x (slice_index k (4 * n + 2))) (c.from_be_bytes-3.ensures ∙ word_from_bytes _ _ _ _))
    (ap (λ (x : ℕ). bit_xor x (slice_index k (4 * n + 3))) (c.from_be_bytes-4.ensures ∙ word_from_bytes _ _ _ _))
