use Rattle.std.proofs.Common.{◌≡◌, ℕ, ◌+◌, ◌-◌, ◌≤◌, List, ◌++◌, rules, arith, length, take, slice_range, sym, ap, ◌∙◌, subst, le_refl, drop_at, length-take-le}
use Rattle.std.proofs.lemmas.Slice.{take-put_mid_below}
use Rattle.std.specs.Io.KnownBytes.{Consumes}
use Rattle.std.proofs.KnownBytes.{Consumes-trans}
use borrow.Rule.Slice.PartMut.{put_mid, post_of}
use lib.Seq.{take-add, take-append-le}
use Rattle.krb_io.proofs.Transfers.{short_then_kept, short_then_none}
use Rattle.krb_io.proofs.reading.read_exact.Goals as goal

take_split : (a b : ℕ) (old new : List ℕ) → a ≤ b → take a new ≡ take a old → take a old ++ slice_range new a b ≡ take b new
take_split a b old new h prefix =
    let same : a + (b - a) ≡ b = omega arith in
    ap (λ l. l ++ slice_range new a b) (sym prefix) ∙ sym (take-add a (b - a) new) ∙ ap (λ n. take n new) same

slice_range-put_mid : (a k n : ℕ) (xs ys : List ℕ) → a ≤ length xs → n ≤ length ys → slice_range (put_mid a k xs ys) a (a + n) ≡ take n ys
slice_range-put_mid a k n xs ys within fits =
    let same : (a + n) - a ≡ n = omega arith in
    let after = post_of a k xs in
    ap (take ((a + n) - a)) (drop_at (take a xs) (ys ++ after) a (length-take-le a xs within)) ∙ ap (λ m. take m (ys ++ after)) same ∙ take-append-le n ys after fits

pub loop-done-preserved : goal.loop-done-preserved
loop-done-preserved g c =
    let from = c.loop-done.done in
    let room = length c.loop-done.buffer - from in
    let within = c.loop-done.invariant.1 in
    let part = slice_range-put_mid from room c.in_ok-n.n c.loop-done.buffer c.read_once.new.buffer within c.in_ok-n.ensures.within in
    let concatenated = take_split from (from + c.in_ok-n.n) c.loop-done.buffer (put_mid from room c.loop-done.buffer c.read_once.new.buffer) (omega arith) (take-put_mid_below _ _ _ _ _ (le_refl _) within) in
    (search rules, search rules, subst (Consumes _ _) (ap (λ l. take from c.loop-done.buffer ++ l) (sym part) ∙ concatenated) (Consumes-trans _ _ _ _ _ c.loop-done.invariant.2 c.in_ok-n.ensures.octets))

pub returns-in_err-n-clause-fewer : goal.returns-in_err-n-clause-fewer
returns-in_err-n-clause-fewer g c =
    let short = short_then_kept c.loop-done.done (length c.args.buffer.now) c.loop-done.buffer _ _ _ (omega (arith, c.loop-done.invariant.0)) c.loop-done.invariant.1 c.loop-done.invariant.2 c.in_err-n.ensures.kept in
    grind (arith, short)

pub returns-then-n-eq0-clause-fewer : goal.returns-then-n-eq0-clause-fewer
returns-then-n-eq0-clause-fewer g c =
    short_then_none c.loop-done.done (length c.args.buffer.now) c.in_ok-n.n c.loop-done.buffer c.read_once.new.buffer _ _ _ (omega (arith, c.loop-done.invariant.0)) c.loop-done.invariant.1 (search rules) c.loop-done.invariant.2 c.in_ok-n.ensures.octets
