use Rattle.std.proofs.Common.{◌*◌, ◌+◌, ap, ℕ, bit_xor, slice_index}
use Rattle.krb_crypto_block.specs.InverseCipher.{inverse_sub_bytes, inverse_shift_rows}
use Rattle.krb_crypto_block.proofs.AesWords.{state_bytes}
use Rattle.krb_crypto_aes_tables.proofs.WordRounds.{inverse_round_is}
use Rattle.krb_crypto_aes_tables.proofs.rounds.inverse_round.Goals as goal

pub returns : goal.returns
unfolding inverse_sub_bytes inverse_shift_rows
returns c = λ w st octets has held.
    let k = c.args.keys.now in
    let n = c.args.n in
    let b = state_bytes c.args.s st _ _ _ _ held c.to_be_bytes.ensures c.to_be_bytes-2.ensures c.to_be_bytes-3.ensures c.to_be_bytes-4.ensures in
    inverse_round_is w k n octets st _ _ _ _ has held.0
    (ap (λ (x : ℕ). bit_xor x (slice_index k (4 * n))) (rw (b.0, b.1, b.2, b.3) at c.unmixed_column.ensures))
    (ap (λ (x : ℕ). bit_xor x (slice_index k (4 * n + 1))) (rw (b.0, b.1, b.2, b.3) at c.unmixed_column-2.ensures))
    (ap (λ (x : ℕ). bit_xor x (slice_index k (4 * n + 2))) (rw (b.0, b.1, b.2, b.3) at c.unmixed_column-3.ensures))
    (ap (λ (x : ℕ). bit_xor x (slice_index k (4 * n + 3))) (rw (b.0, b.1, b.2, b.3) at c.unmixed_column-4.ensures))
