use Rattle.std.proofs.Common.{◌≡◌, ℕ, ◌-◌, ◌/◌, List, length, refl, ◌∙◌, arith, rules}
use Rattle.krb_crypto_block.specs.Modes.{IsOctets}
use Rattle.krb_crypto_block.proofs.StealingLaws.{Cts-stolen}
use Rattle.krb_crypto_block.proofs.StealingSteps.{one_stolen, written_stolen}
use Rattle.krb_crypto_block.proofs.stealing.encrypt_cts.Goals as goal

pub returns-then-octets-eq-BLOCK_SIZE : goal.returns-then-octets-eq-BLOCK_SIZE
returns-then-octets-eq-BLOCK_SIZE g c =
    let E : List ℕ → List ℕ = g.C.BlockEncrypt.encrypts c.args.cipher.now in
    let octets : IsOctets c.args.octets.now = search rules in
    Cts-stolen E (g.C.BlockEncrypt.decrypts c.args.cipher.now) c.requires.inverse 0 c.args.octets.now c.chain.new.octets c.requires.long octets (omega (arith, c.if-octets-eq-BLOCK_SIZE.true))
    (c.chain.ensures.chained ∙ one_stolen E c.args.octets.now c.if-octets-eq-BLOCK_SIZE.true)

pub returns : goal.returns
returns g c =
    let E : List ℕ → List ℕ = g.C.BlockEncrypt.encrypts c.args.cipher.now in
    let p : List ℕ = c.args.octets.now in
    let octets : IsOctets c.args.octets.now = search rules in
    let long : length c.chain-before.new.octets ≡ c.prefix_size-start.result = search rules in
    Cts-stolen E (g.C.BlockEncrypt.decrypts c.args.cipher.now) c.requires.inverse ((length p - 1) / 16) p _ c.requires.long octets refl
    (written_stolen E p c.chain-before.new.octets c.chain-before.result c.encrypt_last_two.new.rest c.prefix_size-start.result c.prefix_size-start.ensures.blocks c.prefix_size-start.ensures.prefix
    long c.chain-before.ensures.chained c.chain-before.ensures.last c.encrypt_last_two.ensures)
