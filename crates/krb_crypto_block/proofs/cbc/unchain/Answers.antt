use Rattle.std.proofs.Common.{◌≡◌, ℕ, ◌+◌, ◌-◌, ◌*◌, ◌/◌, ◌≤◌, List, ◌++◌, length, take, drop, refl, ap, ◌∙◌, arith, rules}
use Rattle.std.proofs.lemmas.List.{length-drop, take_rest}
use Rattle.krb_crypto_block.specs.Linked.{unlinked, last_block}
use Rattle.krb_crypto_block.proofs.Chaining.{part_at, placed_at, drop_more, next_part}
use Rattle.krb_crypto_block.proofs.ChainingPairs.{pair_counted, unlink_pair, last_of_pair, one_left, none_left, written_last, unlinked_one, last_one, unlinked_none, last_none}
use Rattle.krb_crypto_block.proofs.cbc.unchain.Goals as goal

pub loop-i-preserved : goal.loop-i-preserved
loop-i-preserved g c =
    let size : ℕ = g.row.SIZE in
    let pair : ℕ = 2 * size in
    let D : List ℕ → List ℕ = g.C.BlockDecrypt.decrypts c.args.cipher.now in
    let p : List ℕ = c.args.octets.now in
    let o : List ℕ = c.loop-i.octets in
    let i : ℕ = c.loop-i.i in
    let count : ℕ = length p / size in
    let k : ℕ = count - 2 * (i + 1) in
    let q : List ℕ = drop (pair * i) p in
    let made : List ℕ = c.unchain_two-before.new.place in
    let counted = pair_counted size c.requires.size p i c.requires.whole c.loop-i-test.true in
    let at = part_at pair p o i c.loop-i.invariant.1 in
    let whole : length made ≡ pair = search rules in
    let fits : pair * i + pair ≤ length o = omega (arith, counted.0, c.loop-i.auto.octets) in
    let next = placed_at pair o _ made made i whole fits refl refl in
    let long : pair ≤ length q = rw length-drop (omega (arith, counted.0)) in
    let octets = unlink_pair size D k c.loop-i.before q _ made c.unchain_two-before.result (take (pair * i) o) _ (unlinked size D count c.args.first.now p) long at c.unchain_two-before.ensures.plain c.unchain_two-before.ensures.last next.0 (rw counted.1 at c.loop-i.invariant.0) in
    let last = last_of_pair size k c.loop-i.before q _ c.unchain_two-before.result (last_block size count c.args.first.now p) long at c.unchain_two-before.ensures.last (rw counted.1 at c.loop-i.invariant.2) in (
      rw (next_part pair p i) at octets,
      next.1 ∙ drop_more pair o p i c.loop-i.invariant.1,
      rw (next_part pair p i) at last,
    )

pub unchain_one-before-requires : goal.unchain_one-before-requires
unchain_one-before-requires g c =
    let size : ℕ = g.row.SIZE in
    let p : List ℕ = c.args.octets.now in
    let o : List ℕ = c.loop-i.octets in
    let start : ℕ = 2 * size * (length p / (2 * size)) in
    let one = one_left size c.requires.size p (length p / (2 * size)) c.requires.whole (omega arith) (omega (arith, c.if-start-octets.true, c.loop-i.auto.octets)) in
    (omega (arith, c.requires.room), ap length (take_rest o start) ∙ length-drop start o ∙ omega (arith, one.1, c.loop-i.auto.octets))

pub returns-then-start-octets-clause-plain : goal.returns-then-start-octets-clause-plain
returns-then-start-octets-clause-plain g c =
    let size : ℕ = g.row.SIZE in
    let D : List ℕ → List ℕ = g.C.BlockDecrypt.decrypts c.args.cipher.now in
    let p : List ℕ = c.args.octets.now in
    let o : List ℕ = c.loop-i.octets in
    let n : ℕ = length p / (2 * size) in
    let start : ℕ = 2 * size * n in
    let same : c.loop-i.i ≡ n = omega (arith, c.loop-i-test.false, c.loop-i.auto.i-end) in
    let one = one_left size c.requires.size p n c.requires.whole (omega arith) (omega (arith, c.if-start-octets.true, c.loop-i.auto.octets)) in
    let q : List ℕ = drop start p in
    let long : length q ≡ size = length-drop start p ∙ one.1 in
    let at : take (length o - start) (drop start o) ≡ q = take_rest o start ∙ rw same at c.loop-i.invariant.1 in
    let octets : take start o ++ unlinked size D 1 c.loop-i.before q ≡ unlinked size D (length p / size) c.args.first.now p = rw (same, one.0) at c.loop-i.invariant.0 in
    written_last size o c.unchain_one-before.new.place _ start (omega (arith, c.if-start-octets.true))
    (unlinked_one size D c.loop-i.before q _ c.unchain_one-before.new.place (take start o) _ long at c.unchain_one-before.ensures.plain octets)

pub returns-then-start-octets-clause-last : goal.returns-then-start-octets-clause-last
returns-then-start-octets-clause-last g c =
    let size : ℕ = g.row.SIZE in
    let p : List ℕ = c.args.octets.now in
    let o : List ℕ = c.loop-i.octets in
    let n : ℕ = length p / (2 * size) in
    let start : ℕ = 2 * size * n in
    let same : c.loop-i.i ≡ n = omega (arith, c.loop-i-test.false, c.loop-i.auto.i-end) in
    let one = one_left size c.requires.size p n c.requires.whole (omega arith) (omega (arith, c.if-start-octets.true, c.loop-i.auto.octets)) in
    let q : List ℕ = drop start p in
    let long : length q ≡ size = length-drop start p ∙ one.1 in
    let at : take (length o - start) (drop start o) ≡ q = take_rest o start ∙ rw same at c.loop-i.invariant.1 in
    let last : last_block size 1 c.loop-i.before q ≡ last_block size (length p / size) c.args.first.now p = rw (same, one.0) at c.loop-i.invariant.2 in
    c.unchain_one-before.ensures.last ∙ last_one size c.loop-i.before q _ _ long at last

pub returns-else-start-octets-clause-plain : goal.returns-else-start-octets-clause-plain
returns-else-start-octets-clause-plain g c =
    let size : ℕ = g.row.SIZE in
    let p : List ℕ = c.args.octets.now in
    let n : ℕ = length p / (2 * size) in
    let same : c.loop-i.i ≡ n = omega (arith, c.loop-i-test.false, c.loop-i.auto.i-end) in
    let done : length p ≤ 2 * size * n = omega (arith, c.if-start-octets.false, c.loop-i.auto.octets) in
    let left = none_left size c.requires.size p n c.requires.whole done in
    unlinked_none size (g.C.BlockDecrypt.decrypts c.args.cipher.now) c.loop-i.before (drop (2 * size * n) p) c.loop-i.octets _ (2 * size * n) (omega (arith, done, c.loop-i.auto.octets)) (rw (same, left) at c.loop-i.invariant.0)

pub returns-else-start-octets-clause-last : goal.returns-else-start-octets-clause-last
returns-else-start-octets-clause-last g c =
    let size : ℕ = g.row.SIZE in
    let p : List ℕ = c.args.octets.now in
    let n : ℕ = length p / (2 * size) in
    let same : c.loop-i.i ≡ n = omega (arith, c.loop-i-test.false, c.loop-i.auto.i-end) in
    let done : length p ≤ 2 * size * n = omega (arith, c.if-start-octets.false, c.loop-i.auto.octets) in
    let left = none_left size c.requires.size p n c.requires.whole done in
    last_none size c.loop-i.before (drop (2 * size * n) p) _ (rw (same, left) at c.loop-i.invariant.2)
