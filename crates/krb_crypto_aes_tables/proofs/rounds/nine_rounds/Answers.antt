use Rattle.std.proofs.Common.{◌+◌, arith}
use Rattle.krb_crypto_block.specs.Aes.{rounds}
use Rattle.krb_crypto_aes_tables.proofs.rounds.nine_rounds.Goals as goal

pub returns : goal.returns
unfolding rounds
returns c = λ w octets has block.
    c.round.ensures w _ octets (has 9 (omega arith))
    (c.four_rounds-eighth.ensures w _ octets (λ i h. has (5 + i) (omega arith))
    (c.four_rounds-fourth.ensures w _ octets (λ i h. has (1 + i) (omega arith))
    (c.add_round_key.ensures w octets (has 0 (omega arith)) block)))
