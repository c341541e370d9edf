use Rattle.std.proofs.Common.{◌-◌, arith}
use Rattle.krb_crypto_block.specs.AesWords.{inverse_cipher_rounds}
use Rattle.krb_crypto_aes_tables.proofs.rounds.nine_inverse_rounds.Goals as goal

pub returns : goal.returns
unfolding inverse_cipher_rounds
returns c = λ w st octets has held.
    c.four_inverse_rounds.ensures w _ octets (λ i h. has (4 - i) (omega arith) (omega arith))
    (c.four_inverse_rounds-fifth.ensures w _ octets (λ i h. has (8 - i) (omega arith) (omega arith))
    (c.inverse_round.ensures w st octets (has 9 (omega arith) (omega arith)) held))
