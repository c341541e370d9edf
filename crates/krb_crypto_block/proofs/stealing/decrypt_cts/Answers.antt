use Rattle.std.proofs.Common.{◌≡◌, ℕ, ◌-◌, ◌/◌, List, length, refl, ◌∙◌, arith, rules}
use Rattle.krb_crypto_block.specs.Modes.{IsOctets}
use Rattle.krb_crypto_block.proofs.StealingLaws.{Cts-unstolen, only-unstolen}
use Rattle.krb_crypto_block.proofs.StealingSteps.{one_unstolen, written_unstolen}
use Rattle.krb_crypto_block.proofs.stealing.decrypt_cts.Goals as goal

pub returns-then-octets-eq-BLOCK_SIZE-clause-plain : goal.returns-then-octets-eq-BLOCK_SIZE-clause-plain
returns-then-octets-eq-BLOCK_SIZE-clause-plain g c =
    let D : List ℕ → List ℕ = g.C.BlockDecrypt.decrypts c.args.cipher.now in
    let octets : IsOctets c.args.octets.now = search rules in
    Cts-unstolen (g.C.BlockDecrypt.encrypts c.args.cipher.now) D c.requires.inverse 0 c.unchain.new.octets c.args.octets.now c.requires.long octets (omega (arith, c.if-octets-eq-BLOCK_SIZE.true))
    (c.unchain.ensures.plain ∙ one_unstolen D c.args.octets.now c.if-octets-eq-BLOCK_SIZE.true)

pub returns-then-octets-eq-BLOCK_SIZE-clause-only : goal.returns-then-octets-eq-BLOCK_SIZE-clause-only
returns-then-octets-eq-BLOCK_SIZE-clause-only g c =
    let D : List ℕ → List ℕ = g.C.BlockDecrypt.decrypts c.args.cipher.now in
    only-unstolen (g.C.BlockDecrypt.encrypts c.args.cipher.now) D c.requires.inverse 0 c.unchain.new.octets c.args.octets.now c.requires.long (omega (arith, c.if-octets-eq-BLOCK_SIZE.true))
    (c.unchain.ensures.plain ∙ one_unstolen D c.args.octets.now c.if-octets-eq-BLOCK_SIZE.true)

pub returns-clause-plain : goal.returns-clause-plain
returns-clause-plain g c =
    let D : List ℕ → List ℕ = g.C.BlockDecrypt.decrypts c.args.cipher.now in
    let p : List ℕ = c.args.octets.now in
    let octets : IsOctets c.args.octets.now = search rules in
    let long : length c.unchain-before.new.octets ≡ c.prefix_size-start.result = search rules in
    Cts-unstolen (g.C.BlockDecrypt.encrypts c.args.cipher.now) D c.requires.inverse ((length p - 1) / 16) _ p c.requires.long octets refl
    (written_unstolen D p c.unchain-before.new.octets c.unchain-before.result c.decrypt_last_two.new.rest c.prefix_size-start.result c.prefix_size-start.ensures.blocks c.prefix_size-start.ensures.prefix c.prefix_size-start.ensures.rest
    c.requires.inverse.decrypted octets long c.unchain-before.ensures.plain c.unchain-before.ensures.last c.decrypt_last_two.ensures)

pub returns-clause-only : goal.returns-clause-only
returns-clause-only g c =
    let D : List ℕ → List ℕ = g.C.BlockDecrypt.decrypts c.args.cipher.now in
    let p : List ℕ = c.args.octets.now in
    let octets : IsOctets c.args.octets.now = search rules in
    let long : length c.unchain-before.new.octets ≡ c.prefix_size-start.result = search rules in
    only-unstolen (g.C.BlockDecrypt.encrypts c.args.cipher.now) D c.requires.inverse ((length p - 1) / 16) _ p c.requires.long refl
    (written_unstolen D p c.unchain-before.new.octets c.unchain-before.result c.decrypt_last_two.new.rest c.prefix_size-start.result c.prefix_size-start.ensures.blocks c.prefix_size-start.ensures.prefix c.prefix_size-start.ensures.rest
    c.requires.inverse.decrypted octets long c.unchain-before.ensures.plain c.unchain-before.ensures.last c.decrypt_last_two.ensures)
