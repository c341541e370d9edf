use Rattle.std.proofs.Common.{◌*◌, ◌+◌, ap, ℕ, bit_xor, slice_index}
use Rattle.krb_crypto_block.specs.Aes.{sub_bytes, shift_rows, last_round}
use Rattle.krb_crypto_block.proofs.AesStates.{sub_bytes-IsState, shift_rows-IsState}
use Rattle.krb_crypto_block.proofs.AesUndoing.{state_of_block}
use Rattle.krb_crypto_block.proofs.AesWords.{state_bytes}
use Rattle.krb_crypto_aes_tables.proofs.WordRounds.{added_is}
use Rattle.krb_crypto_aes_tables.proofs.rounds.last_round.Goals as goal

pub returns : goal.returns
unfolding sub_bytes shift_rows
returns c = λ w st octets has held.
    let k = c.args.keys.now in
    let n = c.args.n in
    let b = state_bytes c.args.s st _ _ _ _ held c.to_be_bytes.ensures c.to_be_bytes-2.ensures c.to_be_bytes-3.ensures c.to_be_bytes-4.ensures in
    c.octets_of.ensures (last_round w n st)
    (added_is w k n octets (shift_rows (sub_bytes st)) _ _ _ _ has (shift_rows-IsState _ (sub_bytes-IsState st (state_of_block st held.0)))
    (ap (λ (x : ℕ). bit_xor x (slice_index k (4 * n))) (rw (b.0, b.1, b.2, b.3) at c.substituted_column.ensures))
    (ap (λ (x : ℕ). bit_xor x (slice_index k (4 * n + 1))) (rw (b.0, b.1, b.2, b.3) at c.substituted_column-2.ensures))
    (ap (λ (x : ℕ). bit_xor x (slice_index k (4 * n + 2))) (rw (b.0, b.1, b.2, b.3) at c.substituted_column-3.ensures))
    (ap (λ (x : ℕ). bit_xor x (slice_index k (4 * n + 3))) (rw (b.0, b.1, b.2, b.3) at c.substituted_column-4.ensures)))
