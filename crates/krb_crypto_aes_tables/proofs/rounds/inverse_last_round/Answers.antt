use Rattle.std.proofs.Common.{ap, ℕ, bit_xor, slice_index}
use Rattle.krb_crypto_block.specs.InverseCipher.{inverse_sub_bytes, inverse_shift_rows}
use Rattle.krb_crypto_block.specs.AesWords.{inverse_cipher_last}
use Rattle.krb_crypto_block.proofs.AesStates.{inverse_sub_bytes-IsState, inverse_shift_rows-IsState}
use Rattle.krb_crypto_block.proofs.AesUndoing.{state_of_block}
use Rattle.krb_crypto_block.proofs.AesWords.{state_bytes}
use Rattle.krb_crypto_aes_tables.proofs.WordRounds.{added_is}
use Rattle.krb_crypto_aes_tables.proofs.rounds.inverse_last_round.Goals as goal

pub returns : goal.returns
unfolding inverse_sub_bytes inverse_shift_rows
returns c = λ w st octets has held.
    let k = c.args.keys.now in
    let b = state_bytes c.args.s st _ _ _ _ held c.to_be_bytes.ensures c.to_be_bytes-2.ensures c.to_be_bytes-3.ensures c.to_be_bytes-4.ensures in
    c.octets_of.ensures (inverse_cipher_last w st)
    (added_is w k 0 octets (inverse_sub_bytes (inverse_shift_rows st)) _ _ _ _ has
    (inverse_sub_bytes-IsState _ (inverse_shift_rows-IsState st (state_of_block st held.0)))
    (ap (λ (x : ℕ). bit_xor x (slice_index k 0)) (rw (b.0, b.1, b.2, b.3) at c.unsubstituted_column.ensures))
    (ap (λ (x : ℕ). bit_xor x (slice_index k 1)) (rw (b.0, b.1, b.2, b.3) at c.unsubstituted_column-2.ensures))
    (ap (λ (x : ℕ). bit_xor x (slice_index k 2)) (rw (b.0, b.1, b.2, b.3) at c.unsubstituted_column-3.ensures))
    (ap (λ (x : ℕ). bit_xor x (slice_index k 3)) (rw (b.0, b.1, b.2, b.3) at c.unsubstituted_column-4.ensures)))
