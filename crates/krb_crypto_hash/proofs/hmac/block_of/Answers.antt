use Rattle.std.proofs.Common.{◌≡◌, length, ◌∙◌, ap, arith, rules}
use Rattle.krb_crypto_hash.proofs.HmacSteps.{block_short, block_long}
use Rattle.krb_crypto_hash.proofs.hmac.block_of.Goals as goal

pub returns-else-key : goal.returns-else-key
returns-else-key g c = block_short g.H.HashFunction.hash g.row.BLOCK c.args.key.now c.copy_from_slice-else-key.new.self c.copy_from_slice-else-key.ensures.after (omega arith)

pub returns-then-key : goal.returns-then-key
returns-then-key g c =
    let hashed : c.finish.result ≡ g.H.HashFunction.hash c.args.key.now = c.finish.ensures c.args.key.now (c.absorb.ensures _ c.begin-hasher.ensures) in
    let sized : length c.finish.result ≡ g.row.SIZE = search rules in
    let filled : c.copy_from_slice.new.self ≡ c.finish.result = c.copy_from_slice.ensures.after in
    block_long g.H.HashFunction.hash g.row.BLOCK g.row.SIZE c.args.key.now c.copy_from_slice.new.self (filled ∙ hashed) (ap length filled ∙ sized) (omega (arith, c.if-key.true))
