use Rattle.std.proofs.Common.{arith, rules}
use Rattle.krb_crypto_hash.proofs.XorLists.{xored_end, xored_more}
use Rattle.krb_crypto_hash.proofs.xor.xored_with.Goals as goal

pub loop-i-preserved : goal.loop-i-preserved
loop-i-preserved g c =
    let r = xored_more c.loop-i.combined c.args.part.now c.args.block.now c.loop-i.i (omega arith) c.loop-i.invariant.below c.loop-i.invariant.above in
    record { sized = search rules; below = r.0; above = r.1 }

pub returns : goal.returns
returns g c = xored_end g.row.SIZE c.loop-i.combined c.args.part.now c.args.block.now c.loop-i.i c.loop-i.invariant.sized c.told-block c.requires (omega arith) c.loop-i.invariant.below c.loop-i.invariant.above
