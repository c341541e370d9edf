use Rattle.std.proofs.Common.{rules, arith, ◌≡◌, ◌<◌, ◌+◌, ◌*◌, ◌/◌, ◌≤◌, ℕ, length, ◌⊎◌, inl, inr, refl, ap, ◌∙◌, length-append}
use Rattle.krb_crypto_block.specs.Aes.{aes_block}
use Rattle.krb_crypto_block.specs.Fold.{fold}
use Rattle.krb_crypto_block.specs.Size.{key_octets}
use Rattle.krb_crypto_message.specs.Derive.{blocks_from}
use Rattle.krb_crypto_message.proofs.Deriving.{key_sizes, blocks_step, derived_end}
use Rattle.krb_crypto_message.proofs.aes.key_derivation.derived_key.Goals as goal

-- before each turn there is room for one more block
room : (size i : ℕ) → (size ≡ 16) ⊎ (size ≡ 32) → i < size / 16 → 16 * i + 16 ≤ 32
room size i is low = elim is [ inl short ↦ omega arith | inr wide ↦ omega arith ]

pub push-requires : goal.push-requires
push-requires c =
    let low : c.loop-i.i < key_octets c.args.size.now / 16 = rw c.key_length-i-end.ensures at c.loop-i-test.true in
    let block : length c.encrypt_block-next.result ≡ 16 = search rules in
    omega (arith, c.loop-i.invariant.sized, block, room (key_octets c.args.size.now) c.loop-i.i (key_sizes c.args.size.now) low)

pub loop-i-preserved : goal.loop-i-preserved
loop-i-preserved c =
    let low : c.loop-i.i < key_octets c.args.size.now / 16 = rw c.key_length-i-end.ensures at c.loop-i-test.true in
    let block : length c.encrypt_block-next.result ≡ 16 = search rules in
    record {
      block = search rules;
      sized = ap length c.push.ensures ∙ length-append c.loop-i.derived c.encrypt_block-next.result ∙ omega (arith, c.loop-i.invariant.sized, block);
      so_far = blocks_step (aes_block c.args.cipher.now) c.loop-i.block c.encrypt_block-next.result c.loop-i.derived c.push.new.self
          (blocks_from (aes_block c.args.cipher.now) (fold c.args.well_known.now 128) (key_octets c.args.size.now / 16)) (key_octets c.args.size.now / 16) c.loop-i.i
          low c.encrypt_block-next.ensures c.push.ensures c.loop-i.invariant.so_far;
    }

-- every turn was made
all_turns : (size i long : ℕ) → (size ≡ 16) ⊎ (size ≡ 32) → size / 16 ≤ i → i ≤ size / 16 → long ≡ 16 * i → (long ≡ 16 * (size / 16)) × (long ≡ size)
all_turns size i long is past end e = elim is [ inl short ↦ (omega arith, omega arith) | inr wide ↦ (omega arith, omega arith) ]

pub returns-clause-derived : goal.returns-clause-derived
returns-clause-derived c =
    let past : key_octets c.args.size.now / 16 ≤ c.loop-i.i = rw c.key_length-i-end.ensures at c.loop-i-test.false in
    let end : c.loop-i.i ≤ key_octets c.args.size.now / 16 = rw c.key_length-i-end.ensures at c.loop-i.auto.i-end in
    let long = (all_turns (key_octets c.args.size.now) c.loop-i.i (length c.loop-i.derived) (key_sizes c.args.size.now) past end c.loop-i.invariant.sized).0 in
    let size : (length c.args.cipher.now ≡ 16) ⊎ (length c.args.cipher.now ≡ 32) = rw c.requires.size (key_sizes c.args.size.now) in
    let count : key_octets c.args.size.now / 16 ≡ length c.args.cipher.now / 16 = omega (arith, c.requires.size) in
    (derived_end c.args.cipher.now c.args.well_known.now (fold c.args.well_known.now 128) c.loop-i.derived (key_octets c.args.size.now / 16) c.loop-i.i size count past refl long c.loop-i.block c.loop-i.invariant.so_far).0

pub returns-clause-size : goal.returns-clause-size
returns-clause-size c =
    let past : key_octets c.args.size.now / 16 ≤ c.loop-i.i = rw c.key_length-i-end.ensures at c.loop-i-test.false in
    let end : c.loop-i.i ≤ key_octets c.args.size.now / 16 = rw c.key_length-i-end.ensures at c.loop-i.auto.i-end in
    (all_turns (key_octets c.args.size.now) c.loop-i.i (length c.loop-i.derived) (key_sizes c.args.size.now) past end c.loop-i.invariant.sized).1
