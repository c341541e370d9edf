use Rattle.std.proofs.Common.{◌≡◌, [], ◌∷◌, ◌++◌, ℕ, List, refl, ap, ◌∙◌}
use Rattle.std.specs.Int.{w32, to_be_bytes}
use Rattle.krb_crypto_hash.specs.Hmac.{padded, hmac_over}
use Rattle.krb_crypto_hash.specs.Kdf.{kdf_message}
use Rattle.krb_crypto_hash.proofs.HmacSteps.{hmac_whole, four_parts}
use Rattle.krb_crypto_hash.proofs.kdf.block_under.Goals as goal

pub returns : goal.returns
returns g c = λ key ready.
    let hash : List ℕ → List ℕ = g.H.HashFunction.hash in
    let inner : g.H.HashFunction.holds c.copy-inner.result (padded hash g.row.BLOCK key 0x36) = rw c.copy-inner.ensures ready.0 in
    let outer : g.H.HashFunction.holds c.copy-outer.result (padded hash g.row.BLOCK key 0x5c) = rw c.copy-outer.ensures ready.1 in
    let label : List ℕ = c.args.label.now in
    let counter : c.to_be_bytes.result ≡ to_be_bytes w32 1 = c.to_be_bytes.ensures in
    let bits : c.to_be_bytes-2.result ≡ to_be_bytes w32 c.args.bits = c.to_be_bytes-2.ensures in
    let digest = c.finish.ensures _ (c.absorb-4.ensures _ (c.absorb-3.ensures _ (c.absorb-2.ensures _ (c.absorb.ensures _ inner)))) in
    let concatenated = four_parts (padded hash g.row.BLOCK key 0x36) c.to_be_bytes.result label (0 ∷ []) c.to_be_bytes-2.result in
    let mac = c.finish-2.ensures _ (c.absorb-5.ensures _ outer) in
    let message : c.to_be_bytes.result ++ (label ++ (0 ∷ c.to_be_bytes-2.result)) ≡ kdf_message label c.args.bits = rw (counter, bits) refl in
    hmac_whole hash g.row.BLOCK key _ c.finish.result c.finish-2.result (digest ∙ ap hash concatenated) mac ∙ ap (hmac_over hash g.row.BLOCK key) message
