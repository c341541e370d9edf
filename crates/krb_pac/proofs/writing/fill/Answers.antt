use Rattle.std.proofs.Common.{◌≡◌, ℕ, ◌+◌, ◌*◌, ◌≤◌, true, false, Bool, List, length, take, drop, suc, ap, ◌∙◌, sym, subst, arith, rules}
use Rattle.std.proofs.lemmas.List.{take_all, length-take-le}
use Rattle.krb_pac.specs.Layout.{Buffer}
use Rattle.krb_pac.specs.Marks.{Takes}
use Rattle.krb_pac.specs.Written.{AllOf, AreApart, padded, head}
use Rattle.krb_pac.specs.Entry.{Entry}
use Rattle.krb_pac.proofs.Fill.{Filled, IsWithin, more_filled, all_filled, split_at_place, one_more, without_place, without_own}
use Rattle.krb_pac.proofs.Marks.{Marked, more_marked, free_apart, apart_free}
use Rattle.krb_pac.proofs.writing.fill.Goals as goal

pub returns-then-not-has_place-clause-no : goal.returns-then-not-has_place-clause-no
returns-then-not-has_place-clause-no c = λ _ b x.
    let all = c.args.buffers.now in
    let p = c.index-buffers-i.result in
    let len = c.buffers.invariant.0.len in
    let r : c.has_place.result ≡ false = search rules in
    without_place b all (take c.buffers.i all) (drop (suc c.buffers.i) all) p (8 + 16 * length all) (length c.buffers.out) (split_at_place all c.buffers.i p c.buffers-test.true c.index-buffers-i.is) (omega arith) len x (c.has_place.ensures.no r)

pub returns-then-not-take_range-clause-no : goal.returns-then-not-take_range-clause-no
returns-then-not-take_range-clause-no c = λ _ b x.
    let all = c.args.buffers.now in
    let p = c.index-buffers-i.result in
    let r : c.take_range.result ≡ false = search rules in
    let offset : c.offset-offset.result ≡ p.info.offset = c.offset-offset.ensures ∙ ap (λ (z : Entry). z.offset) c.info_buffer.ensures in
    let size = c.octets.ensures.size in
    without_own b all (take c.buffers.i all) (drop (suc c.buffers.i) all) p (split_at_place all c.buffers.i p c.buffers-test.true c.index-buffers-i.is) x
    (λ apart. c.take_range.ensures.no r (λ k l h. c.buffers.invariant.1.left k (apart_free (take c.buffers.i all) p k (omega arith) (omega arith) apart)))

pub buffers-preserved : goal.buffers-preserved
buffers-preserved c =
    let all = c.args.buffers.now in
    let p = c.index-buffers-i.result in
    let total = head all + padded all in
    let len = c.buffers.invariant.0.len in
    let h : c.has_place.result ≡ true = search rules in
    let m : c.take_range.result ≡ true = search rules in
    let place = c.has_place.ensures.yes h in
    let offset : c.offset-offset.result ≡ p.info.offset = c.offset-offset.ensures ∙ ap (λ (z : Entry). z.offset) c.info_buffer.ensures in
    let new : List Bool = c.take_range.new.marks in
    let takes : Takes p.info.offset p.info.cb_buffer_size c.buffers.marks new =
    subst (λ (k : ℕ). Takes k p.info.cb_buffer_size c.buffers.marks new) offset
    (subst (λ (k : ℕ). Takes c.offset-offset.result k c.buffers.marks new) c.octets.ensures.size (c.take_range.ensures.yes m)) in
    let apart : AllOf (λ (q : Buffer). AreApart q p) (take c.buffers.i all) = free_apart (take c.buffers.i all) p (λ k l r. c.buffers.invariant.1.free k (takes.left k l r)) in
    let e = one_more all c.buffers.i p c.buffers-test.true c.index-buffers-i.is in
    let b = c.buffers.out in
    let at = 8 + 16 * c.buffers.i in
    let i : length (take c.buffers.i all) ≡ c.buffers.i = length-take-le c.buffers.i all (omega (arith, c.buffers-test.true)) in
    let room : at + 16 ≤ head all = omega (arith, c.buffers-test.true) in
    let within : IsWithin total p = subst (λ (k : ℕ). IsWithin k p) len place.0 in (
      subst (Filled total (head all) (length all) c.put_buffer.new.out) (sym e)
          (more_filled total (head all) (length all) b c.put_buffer.new.out (take c.buffers.i all) p at c.buffers.invariant.0 (omega arith) room within place.1 apart c.put_buffer.ensures.put),
      subst (Marked total new) (sym e) (more_marked total c.buffers.marks new (take c.buffers.i all) p c.buffers.invariant.1 c.take_range.ensures.len takes),
    )

pub returns-clause-yes : goal.returns-clause-yes
returns-clause-yes c = λ _.
    let all = c.args.buffers.now in
    let e : take c.buffers.i all ≡ all = take_all c.buffers.i all c.buffers-test.false in
    all_filled (head all + padded all) (head all) (length all) c.buffers.out all (omega arith) (omega arith) c.requires.few (omega arith) (subst (Filled (head all + padded all) (head all) (length all) c.buffers.out) e c.buffers.invariant.0)
