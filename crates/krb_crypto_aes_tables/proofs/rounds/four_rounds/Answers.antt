use Rattle.std.proofs.Common.{◌≡◌, ◌+◌, arith}
use Rattle.krb_crypto_block.specs.AesWords.{HasRoundKey}
use Rattle.krb_crypto_aes_tables.proofs.rounds.four_rounds.Goals as goal

pub returns : goal.returns
returns c = λ w st octets has held.
    let n = c.args.n in
    let first : HasRoundKey w c.args.keys.now n = let e : n + 0 ≡ n = omega arith in rw e at (has 0 (omega arith)) in
    c.round-4.ensures w _ octets (has 3 (omega arith))
    (c.round-3.ensures w _ octets (has 2 (omega arith))
    (c.round-2.ensures w _ octets (has 1 (omega arith))
    (c.round.ensures w st octets first held)))
