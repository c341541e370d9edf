use Rattle.std.proofs.Common.{◌≡◌, List, ℕ, sym}
use Rattle.krb_crypto_hash.specs.Hmac.{padded}
use Rattle.krb_crypto_hash.proofs.HmacSteps.{padded_is}
use Rattle.krb_crypto_hash.proofs.hmac.keyed.Goals as goal

pub returns : goal.returns
returns g c =
    let hash : List ℕ → List ℕ = g.H.HashFunction.hash in
    let key : List ℕ = c.args.key.now in
    let inner : c.xored_with.result ≡ padded hash g.row.BLOCK key 0x36 = padded_is hash g.row.BLOCK key c.xored_with.result c.block_of-block.result 0x36 c.xored_with.ensures c.block_of-block.ensures in
    let outer : c.xored_with-2.result ≡ padded hash g.row.BLOCK key 0x5c = padded_is hash g.row.BLOCK key c.xored_with-2.result c.block_of-block.result 0x5c c.xored_with-2.ensures c.block_of-block.ensures in
    (rw (sym inner) (c.absorb.ensures _ c.begin-inner.ensures), rw (sym outer) (c.absorb-2.ensures _ c.begin-outer.ensures))
