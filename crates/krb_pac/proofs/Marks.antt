-- Marks of octets against the ranges that took them.
use Rattle.std.proofs.Common.{◌≡◌, ℕ, ◌+◌, ◌-◌, ◌<◌, ◌≤◌, inl, inr, ⊎_elim, Bool, true, false, List, [], ◌∷◌, ◌++◌, length, take, drop, replicate, slice_index_or, refl, sym, ap, ◌∙◌, arith, rules, length-drop}
use Rattle.std.proofs.lemmas.Bool.{cases_lt}
use Rattle.std.proofs.lemmas.List.{get_or-append_right, get_or_append_left, get_or-drop, get_or-replicate, get_or-take, length-replicate, length-take, length-take-le}
use Rattle.std.specs.List.{AllWithin, HoldsAt}
use mathlib.Core.Bool.{beq}
use Rattle.krb_pac.specs.Layout.{Buffer}
use Rattle.krb_pac.specs.Marks.{IsLeft, Takes}
use Rattle.krb_pac.specs.Written.{AllOf, AreApart, IsFree, IsOutside}
use Rattle.krb_pac.proofs.Lists.{AllOf-push, AllOf-prefix, AllOf-at}

true_left : true ≡ false → ⊥
true_left h = search rules

-- the marked octets are those of the ranges
pub record Marked (total : ℕ) (marks : List Bool) (ps : List Buffer) : Type 0 where
  pub len : length marks ≡ total
  pub free : (k : ℕ) → IsLeft marks k → IsFree k ps
  pub left : (k : ℕ) → IsFree k ps → IsLeft marks k

pub more_marked : (total : ℕ) (old new : List Bool) (ps : List Buffer) (p : Buffer) → Marked total old ps → length new ≡ length old → Takes p.info.offset p.info.cb_buffer_size old new → Marked total new (ps ++ p ∷ [])
more_marked total old new ps p x e t =
    let len = x.len in
    record {
      len = omega arith;
      free = λ k l. ⊎_elim
          (λ a. AllOf-push (IsOutside k) ps p (x.free k (sym (t.kept k (inl a)) ∙ l)) (inl a))
          (λ a. ⊎_elim
          (λ b. absurd (true_left (sym (t.taken k a b) ∙ l)))
          (λ b. AllOf-push (IsOutside k) ps p (x.free k (sym (t.kept k (inr b)) ∙ l)) (inr b))
          (cases_lt k (p.info.offset + p.info.cb_buffer_size)))
          (cases_lt k p.info.offset);
      left = λ k f. t.kept k (AllOf-at (IsOutside k) ps p [] f) ∙ x.left k (AllOf-prefix (IsOutside k) ps (p ∷ []) f);
    }

-- a range of which no octet is in the other's is apart from it
one_apart : (q p : Buffer) → ((k : ℕ) → p.info.offset ≤ k → k < p.info.offset + p.info.cb_buffer_size → IsOutside k q) → AreApart q p
one_apart q p f = ⊎_elim
    (λ some. ⊎_elim
    (λ any. ⊎_elim
    (λ before. ⊎_elim
    (λ meets. absurd (⊎_elim (λ y. omega arith) (λ y. omega arith) (f q.info.offset (omega arith) meets)))
    (λ trailing. inr (inr trailing))
    (cases_lt q.info.offset (p.info.offset + p.info.cb_buffer_size)))
    (λ trailing. ⊎_elim (λ y. absurd (omega arith)) (λ y. inr (inl y)) (f p.info.offset (omega arith) (omega arith)))
    (cases_lt p.info.offset q.info.offset))
    (λ none. inl (inr (omega arith)))
    (cases_lt 0 p.info.cb_buffer_size))
    (λ none. inl (inl (omega arith)))
    (cases_lt 0 q.info.cb_buffer_size)

pub free_apart : (ps : List Buffer) (p : Buffer) → ((k : ℕ) → p.info.offset ≤ k → k < p.info.offset + p.info.cb_buffer_size → IsFree k ps) → AllOf (λ q. AreApart q p) ps
free_apart [] p f = tt
free_apart (q ∷ ps) p f = (one_apart q p (λ k a b. (f k a b).0), free_apart ps p (λ k a b. (f k a b).1))

one_free : (q p : Buffer) (k : ℕ) → p.info.offset ≤ k → k < p.info.offset + p.info.cb_buffer_size → AreApart q p → IsOutside k q
one_free q p k a b x = ⊎_elim
    (⊎_elim
    (λ none. ⊎_elim (λ y. inl y) (λ y. inr (omega arith)) (cases_lt k q.info.offset))
    (λ none. absurd (omega arith)))
    (⊎_elim (λ y. inr (omega arith)) (λ y. inl (omega arith))) x

pub apart_free : (ps : List Buffer) (p : Buffer) (k : ℕ) → p.info.offset ≤ k → k < p.info.offset + p.info.cb_buffer_size → AllOf (λ q. AreApart q p) ps → IsFree k ps
apart_free [] p k a b x = tt
apart_free (q ∷ ps) p k a b x = (one_free q p k a b x.0, apart_free ps p k a b x.1)

-- a mark of a part
part_mark : (xs : List Bool) (a n j : ℕ) → j < n → slice_index_or (take n (drop a xs)) j false ≡ slice_index_or xs (a + j) false
part_mark xs a n j h = get_or-take n (drop a xs) j false h ∙ get_or-drop a xs j false

unmarked : (y : Bool) → beq y true ≡ false → y ≡ false
unmarked true h = h
unmarked false h = refl

-- a marked octet of a range is not left
pub met : (xs : List Bool) (a n size j : ℕ) → n ≡ size → j < length (take n (drop a xs)) → HoldsAt (λ y. beq y true ≡ true) (take n (drop a xs)) j → ((k : ℕ) → a ≤ k → k < a + size → IsLeft xs k) → ⊥
met xs a n size j e h x f =
    let long = length-take n (drop a xs) in
    let within : j < n = omega (arith, long) in
    true_left (sym (x false) ∙ ap (λ y. beq y true) (part_mark xs a n j within ∙ f (a + j) (omega arith) (omega arith)))

-- a range of which no octet was marked is marked
pub taken_range : (xs ys : List Bool) (a n size : ℕ) → n ≡ size → a + size ≤ length xs → ys ≡ replicate (length (take n (drop a xs))) true
    → AllWithin (λ y. beq y true ≡ false) (take n (drop a xs)) 0 (length (take n (drop a xs))) → Takes a size xs (take a xs ++ (ys ++ drop n (drop a xs)))
taken_range xs ys a n size e room all free =
    let dropped = length-drop a xs in
    let long : length (take n (drop a xs)) ≡ n = length-take-le n (drop a xs) (omega (arith, dropped)) in
    let prefix : length (take a xs) ≡ a = length-take-le a xs (omega arith) in
    let filled : ys ≡ replicate n true = all ∙ ap (λ k. replicate k true) long in
    let size_of : length ys ≡ n = ap length filled ∙ length-replicate n true in
    record {
      left = λ k l r.
          let within : k - a < n = omega arith in
          let same : a + (k - a) ≡ k = omega arith in
          sym (part_mark xs a n (k - a) within ∙ ap (λ z. slice_index_or xs z false) same) ∙ unmarked (slice_index_or (take n (drop a xs)) (k - a) false) (free (k - a) false (omega arith) (omega arith));
      taken = λ k l r.
          get_or-append_right (take a xs) (ys ++ drop n (drop a xs)) a k false prefix l ∙ get_or_append_left ys (drop n (drop a xs)) false (k - a) (omega arith)
          ∙ ap (λ z. slice_index_or z (k - a) false) filled ∙ get_or-replicate n (k - a) true false (omega arith);
      kept = λ k. ⊎_elim
          (λ l. get_or_append_left (take a xs) (ys ++ drop n (drop a xs)) false k (omega arith) ∙ get_or-take a xs k false l)
          (λ l. let same : a + (n + (k - a - n)) ≡ k = omega arith in
          get_or-append_right (take a xs) (ys ++ drop n (drop a xs)) a k false prefix (omega arith) ∙ get_or-append_right ys (drop n (drop a xs)) n (k - a) false size_of (omega arith)
          ∙ get_or-drop n (drop a xs) (k - a - n) false ∙ get_or-drop a xs (n + (k - a - n)) false ∙ ap (λ z. slice_index_or xs z false) same);
    }
