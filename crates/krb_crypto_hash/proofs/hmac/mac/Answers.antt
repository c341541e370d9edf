use Rattle.std.proofs.Common.{ℕ, List}
use Rattle.krb_crypto_hash.specs.Hmac.{padded}
use Rattle.krb_crypto_hash.proofs.HmacSteps.{hmac_is}
use Rattle.krb_crypto_hash.proofs.hmac.mac.Goals as goal

pub returns : goal.returns
returns g c = λ key ready.
    let hash : List ℕ → List ℕ = g.H.HashFunction.hash in
    let inner : g.H.HashFunction.holds c.copy-inner.result (padded hash g.row.BLOCK key 0x36) = rw c.copy-inner.ensures ready.0 in
    let outer : g.H.HashFunction.holds c.copy-outer.result (padded hash g.row.BLOCK key 0x5c) = rw c.copy-outer.ensures ready.1 in
    let digest = c.finish.ensures _ (c.absorb-2.ensures _ (c.absorb.ensures _ inner)) in
    hmac_is hash g.row.BLOCK key c.args.first.now c.args.second.now c.finish.result c.finish-2.result digest (c.finish-2.ensures _ (c.absorb-3.ensures _ outer))
