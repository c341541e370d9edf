use Rattle.std.proofs.Common.{◌≡◌, ℕ, ◌+◌, ◌-◌, ◌*◌, ◌/◌, ◌<◌, ◌≤◌, List, length, take, drop, refl, ap, ◌∙◌, arith, rules}
use Rattle.krb_crypto_hash.specs.Xor.{xor_lists, padded_to}
use Rattle.krb_crypto_block.specs.Linked.{linked, last_linked}
use Rattle.krb_crypto_block.proofs.Chaining.{part_inside, part_at, placed_at, drop_more, link_step, last_linked_step, linked_all, last_linked_end}
use Rattle.krb_crypto_block.proofs.cbc.chain.Goals as goal

pub loop-i-preserved : goal.loop-i-preserved
loop-i-preserved g c =
    let size : ℕ = g.row.SIZE in
    let E : List ℕ → List ℕ = g.C.BlockEncrypt.encrypts c.args.cipher.now in
    let p : List ℕ = c.args.octets.now in
    let o : List ℕ = c.loop-i.octets in
    let i : ℕ = c.loop-i.i in
    let made : List ℕ = c.encrypt_block-before.result in
    let n : ℕ = size * i + size - size * i in
    let part : List ℕ = take n (drop (size * i) o) in
    let low : i < length p / size = c.loop-i-test.true in
    let inside : size * i + size ≤ length p = part_inside size p i low in
    let at : part ≡ take size (drop (size * i) p) = part_at size p o i c.loop-i.invariant.1 in
    let is : made ≡ E (xor_lists (padded_to size part) c.loop-i.before) = c.encrypt_block-before.ensures ∙ ap E c.xored_with-mixed.ensures in
    let long : length made ≡ size = search rules in
    let fits : size * i + size ≤ length o = omega (arith, inside, c.loop-i.auto.octets) in
    let next = placed_at size o _ c.copy_from_slice.new.self made i long fits c.copy_from_slice.ensures.after refl in
    let count : ℕ = length p / size in (
      link_step size E count i c.loop-i.before p (take (size * i) o) _ made part (linked size E count c.args.first.now p) low inside at is next.0 c.loop-i.invariant.0,
      next.1 ∙ drop_more size o p i c.loop-i.invariant.1,
      last_linked_step size E count i c.loop-i.before p made part (last_linked size E count c.args.first.now p) low inside at is c.loop-i.invariant.2,
    )

pub returns-clause-chained : goal.returns-clause-chained
returns-clause-chained g c =
    let size : ℕ = g.row.SIZE in
    let E : List ℕ → List ℕ = g.C.BlockEncrypt.encrypts c.args.cipher.now in
    let p : List ℕ = c.args.octets.now in
    linked_all size E c.loop-i.i c.loop-i.before p c.loop-i.octets (linked size E (length p / size) c.args.first.now p) c.requires.whole c.loop-i-test.false c.loop-i.auto.octets c.loop-i.invariant.0

pub returns-clause-last : goal.returns-clause-last
returns-clause-last g c =
    let size : ℕ = g.row.SIZE in
    let E : List ℕ → List ℕ = g.C.BlockEncrypt.encrypts c.args.cipher.now in
    let p : List ℕ = c.args.octets.now in
    last_linked_end size E (length p / size) c.loop-i.i c.loop-i.before _ (last_linked size E (length p / size) c.args.first.now p) c.loop-i-test.false c.loop-i.invariant.2
