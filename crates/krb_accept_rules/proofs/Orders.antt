-- Entries in the order of their times.
use Rattle.std.proofs.Common.{◌≡◌, inl, inr, ◌⊎◌, ℕ, suc, zero, ◌<◌, ◌≤◌, ℤ, ◌≤ℤ◌, ◌<ℤ◌, Bool, true, false, cond, List, [], ◌∷◌, ◌++◌, refl, sym, subst, ap, length, take, drop, get_or, arith}
use Rattle.std.proofs.Math.Seq.{split_at}
use Rattle.std.proofs.lemmas.Int.{ints}
use lib.Dec.{T}
use lib.Signed.{lt_z_no}
use Rattle.std.specs.Prelude.{filter, int_lt, not, MatchBool}
use Rattle.std.specs.List.Sorted.{IsPartitionedBy, IsPartitionPoint}
use Rattle.std.proofs.lemmas.List.{take-append-drop}
use Rattle.krb_accept_rules.specs.Firsts.{EachIs, NoneIs}
use Rattle.krb_accept_rules.specs.InOrder.{IsEarlier, IsFrom, IsInOrder}
use Rattle.krb_accept_rules.specs.Names.{IsAmong}
use Rattle.krb_accept_rules.specs.Remembering.{IsWith}
use Rattle.krb_accept_rules.specs.declared.cache.Entry.{Entry}
use Rattle.krb_accept_rules.proofs.Among.{among_behind, among_split}
use Rattle.krb_accept_rules.proofs.Firsts.{cut_at, each_at, none_among}

-- those after one are of its time or later
pub after_one : (front back : List Entry) (e : Entry) → IsInOrder (front ++ e ∷ back) → EachIs (IsFrom e.seconds) back
after_one [] back e (h, k) = h
after_one (x ∷ front) back e (h, k) = after_one front back e k

-- of two the first is of no later time
pub in_order_at : (es : List Entry) (i j : ℕ) (d : Entry) → IsInOrder es → i ≤ j → j < length es → (get_or es i d).seconds ≤ℤ (get_or es j d).seconds
in_order_at [] i j d h le lt = absurd (omega arith)
in_order_at (e ∷ es) zero zero d h le lt = omega (arith, ints)
in_order_at (e ∷ es) zero (suc j) d (h, k) le lt =
    each_at (IsFrom e.seconds) (take j es) (drop (suc j) es) (get_or es j d) (subst (EachIs (IsFrom e.seconds)) (split_at es j d (omega arith)) h)
in_order_at (e ∷ es) (suc i) zero d h le lt = absurd (omega arith)
in_order_at (e ∷ es) (suc i) (suc j) d (h, k) le lt = in_order_at es i j d k (omega arith) (omega arith)

-- ---- what is put before those that are later, and behind those that are earlier, is in order

each_more : (fact : Entry → Type 0) (front back : List Entry) (e : Entry) → fact e → EachIs fact (front ++ back) → EachIs fact (front ++ e ∷ back)
each_more fact [] back e h k = (h, k)
each_more fact (x ∷ front) back e h (k, ks) = (k, each_more fact front back e h ks)

earlier_from : (a b : ℤ) → a <ℤ b → a ≤ℤ b
earlier_from a b h = omega (arith, ints)

pub put_in_order : (front back : List Entry) (e : Entry) → IsInOrder (front ++ back) → EachIs (IsEarlier e.seconds) front → EachIs (IsFrom e.seconds) back → IsInOrder (front ++ e ∷ back)
put_in_order [] back e h k l = (l, h)
put_in_order (x ∷ front) back e (h, hs) (k, ks) l =
    (each_more (IsFrom x.seconds) front back e (earlier_from x.seconds e.seconds k) h, put_in_order front back e hs ks l)

-- ---- a part is in order

each_here : (fact : Entry → Type 0) (b : Bool) (e : Entry) (es : List Entry) → fact e → EachIs fact es → EachIs fact (cond b (e ∷ es) es)
each_here fact true e es h k = (h, k)
each_here fact false e es h k = k

each_kept : (fact : Entry → Type 0) (test : Entry → Bool) (es : List Entry) → EachIs fact es → EachIs fact (filter test es)
each_kept fact test [] h = tt
each_kept fact test (e ∷ es) (h, hs) = each_here fact (test e) e (filter test es) h (each_kept fact test es hs)

order_here : (b : Bool) (e : Entry) (es : List Entry) → EachIs (IsFrom e.seconds) es → IsInOrder es → IsInOrder (cond b (e ∷ es) es)
order_here true e es h k = (h, k)
order_here false e es h k = k

pub kept_in_order : (test : Entry → Bool) (es : List Entry) → IsInOrder es → IsInOrder (filter test es)
kept_in_order test [] h = tt
kept_in_order test (e ∷ es) (h, hs) = order_here (test e) e (filter test es) (each_kept (IsFrom e.seconds) test es h) (kept_in_order test es hs)

-- ---- by index

pub each_below : (fact : Entry → Type 0) (es : List Entry) (n : ℕ) → n ≤ length es → ((k : ℕ) (d : Entry) → k < n → fact (get_or es k d)) → EachIs fact (take n es)
each_below fact es zero le h = tt
each_below fact [] (suc n) le h = absurd (omega arith)
each_below fact (e ∷ es) (suc n) le h = (h 0 e (omega arith), each_below fact es n (omega arith) (λ k d lt. h (suc k) d (omega arith)))

pub each_above : (fact : Entry → Type 0) (es : List Entry) (n : ℕ) → ((k : ℕ) (d : Entry) → n ≤ k → k < length es → fact (get_or es k d)) → EachIs fact (drop n es)
each_above fact [] zero h = tt
each_above fact [] (suc n) h = tt
each_above fact (e ∷ es) zero h = (h 0 e (omega arith) (omega arith), each_above fact es zero (λ k d le lt. h (suc k) d (omega arith) (omega arith)))
each_above fact (e ∷ es) (suc n) h = each_above fact es n (λ k d le lt. h (suc k) d (omega arith) (omega arith))

-- ---- a part from an index on

each_back : (fact : Entry → Type 0) (es : List Entry) (n : ℕ) → EachIs fact es → EachIs fact (drop n es)
each_back fact es zero h = h
each_back fact [] (suc n) h = tt
each_back fact (e ∷ es) (suc n) (h, hs) = each_back fact es n hs

pub back_in_order : (es : List Entry) (n : ℕ) → IsInOrder es → IsInOrder (drop n es)
back_in_order es zero h = h
back_in_order [] (suc n) h = tt
back_in_order (e ∷ es) (suc n) (h, hs) = back_in_order es n hs

-- ---- what is among those in order

time_clash : (a b : ℤ) → a ≤ℤ b → b <ℤ a → ⊥
time_clash a b h k = omega (arith, ints)

same_clash : (a : ℤ) → a <ℤ a → ⊥
same_clash a h = omega (arith, ints)

-- what is earlier than all is not one of them
pub not_among_later : (es : List Entry) (a : ℤ) (e : Entry) → EachIs (IsFrom a) es → e.seconds <ℤ a → IsAmong es e → ⊥
not_among_later es a e h lt k =
    time_clash a e.seconds (each_at (IsFrom a) k.front k.back e (subst (EachIs (IsFrom a)) k.among h)) lt

-- nor is what is of the time that all are before
pub not_among_earlier : (es : List Entry) (e : Entry) → EachIs (IsEarlier e.seconds) es → IsAmong es e → ⊥
not_among_earlier es e h k =
    same_clash e.seconds (each_at (IsEarlier e.seconds) k.front k.back e (subst (EachIs (IsEarlier e.seconds)) k.among h))

-- what is among some is in front or behind
pub among_either : (front back : List Entry) (x : Entry) → IsAmong (front ++ back) x → IsAmong front x ⊎ IsAmong back x
among_either [] back x h = inr h
among_either (y ∷ front) back x h =
    elim (among_split y x (front ++ back) h) [
      | inl same ↦ inl (record { front = []; back = front; among = ap (λ z. z ∷ front) same })
      | inr k ↦ elim (among_either front back x k) [ inl f ↦ inl (among_behind y x front f) | inr b ↦ inr b ]
    ]

-- and what is behind is among them
pub among_back : (front back : List Entry) (x : Entry) → IsAmong back x → IsAmong (front ++ back) x
among_back [] back x h = h
among_back (y ∷ front) back x h = among_behind y x (front ++ back) (among_back front back x h)

-- ---- an entry that is put between

more_between : (front back : List Entry) (e x : Entry) → IsAmong (front ++ back) x → IsAmong (front ++ e ∷ back) x
more_between [] back e x h = among_behind e x back h
more_between (y ∷ front) back e x h =
    elim (among_split y x (front ++ back) h) [
      | inl same ↦ record { front = []; back = front ++ e ∷ back; among = ap (λ z. z ∷ (front ++ e ∷ back)) same }
      | inr k ↦ among_behind y x (front ++ e ∷ back) (more_between front back e x k)
    ]

only_between : (front back : List Entry) (e x : Entry) → IsAmong (front ++ e ∷ back) x → IsAmong (front ++ back) x ⊎ (x ≡ e)
only_between [] back e x h = elim (among_split e x back h) [ inl same ↦ inr (sym same) | inr k ↦ inl k ]
only_between (y ∷ front) back e x h =
    elim (among_split y x (front ++ e ∷ back) h) [
      | inl same ↦ inl (record { front = []; back = front ++ back; among = ap (λ z. z ∷ (front ++ back)) same })
      | inr k ↦ elim (only_between front back e x k) [ inl r ↦ inl (among_behind y x (front ++ back) r) | inr is ↦ inr is ]
    ]

with_between : (front back : List Entry) (e : Entry) → IsWith (front ++ back) e (front ++ e ∷ back)
with_between front back e = record {
  there = record { front = front; back = back; among = refl };
  stays = λ x h. more_between front back e x h;
  only = λ x h. only_between front back e x h;
}

pub with_put : (es : List Entry) (n : ℕ) (e : Entry) → IsWith es e (take n es ++ e ∷ drop n es)
with_put es n e = subst (λ (l : List Entry). IsWith l e (take n es ++ e ∷ drop n es)) (take-append-drop n es) (with_between (take n es) (drop n es) e)

pub put_at : (es : List Entry) (n : ℕ) (e : Entry) → IsInOrder es → EachIs (IsEarlier e.seconds) (take n es) → EachIs (IsFrom e.seconds) (drop n es)
    → IsInOrder (take n es ++ e ∷ drop n es)
put_at es n e h k l = put_in_order (take n es) (drop n es) e (subst (λ (m : List Entry). IsInOrder m) (sym (take-append-drop n es)) h) k l

-- ---- where those of a time begin

abbrev pub is_earlier : ℤ → Entry → Bool
is_earlier seconds e = int_lt e.seconds seconds

test_passes : (b : Bool) → T b → b ≡ true
test_passes true t = refl
test_passes false t = absurd t

earlier_yet : (a b c : ℤ) → a ≤ℤ b → b <ℤ c → a <ℤ c
earlier_yet a b c h k = omega (arith, ints)

is_before : (seconds : ℤ) (e : Entry) → is_earlier seconds e ≡ true → e.seconds <ℤ seconds
is_before seconds e h = record { lt = subst (λ b. T b) (sym h) tt }

is_from : (seconds : ℤ) (e : Entry) → is_earlier seconds e ≡ false → seconds ≤ℤ e.seconds
is_from seconds e h = lt_z_no (subst (λ b. T (not b)) (sym h) tt)

pub parted : (seconds : ℤ) (es : List Entry) → IsInOrder es → IsPartitionedBy (is_earlier seconds) es
parted seconds es h = λ i j d le lt is. test_passes _ (earlier_yet _ _ seconds (in_order_at es i j d h le lt) (is_before seconds (get_or es j d) is)).lt

pub all_earlier : (seconds : ℤ) (es : List Entry) (n : ℕ) → n ≤ length es → IsPartitionPoint (λ y. is_earlier seconds y ≡ true) (λ y. is_earlier seconds y ≡ false) es n → EachIs (IsEarlier seconds) (take n es)
all_earlier seconds es n le h = each_below (IsEarlier seconds) es n le (λ k d lt. is_before seconds (get_or es k d) (h.0 k d (omega arith) lt))

pub all_from : (seconds : ℤ) (es : List Entry) (n : ℕ) → IsPartitionPoint (λ y. is_earlier seconds y ≡ true) (λ y. is_earlier seconds y ≡ false) es n → EachIs (IsFrom seconds) (drop n es)
all_from seconds es n h = each_above (IsFrom seconds) es n (λ k d le lt. is_from seconds (get_or es k d) (h.1 k d le lt))

-- where the one at an index is later, and none before it is this, none is
none_between : (front back : List Entry) (e x : Entry) → IsInOrder (front ++ x ∷ back) → NoneIs (λ y. y ≡ e) front → e.seconds <ℤ x.seconds → IsAmong (front ++ x ∷ back) e → ⊥
none_between front back e x h none lt k =
    elim (among_either front (x ∷ back) e k) [
      | inl f ↦ none_among front e none f
      | inr b ↦ elim (among_split x e back b) [
        | inl same ↦ same_clash e.seconds (subst (λ (y : Entry). e.seconds <ℤ y.seconds) same lt)
        | inr l ↦ not_among_later back x.seconds e (after_one front back x h) lt l
      ]
    ]

pub none_from : (es : List Entry) (i : ℕ) (e x : Entry) → i < length es → x ≡ get_or es i x → IsInOrder es → NoneIs (λ y. y ≡ e) (take i es) → e.seconds <ℤ x.seconds → IsAmong es e → ⊥
none_from es i e x lt is h none later k =
    let cut = cut_at es i x lt is in
    none_between (take i es) (drop (suc i) es) e x (subst (λ (l : List Entry). IsInOrder l) cut h) none later (subst (λ (l : List Entry). IsAmong l e) cut k)

-- what is among those from an index on is among all, and what is not is among none of them
pub among_from : (es : List Entry) (n : ℕ) (e : Entry) → IsAmong (drop n es) e → IsAmong es e
among_from es n e h = subst (λ (l : List Entry). IsAmong l e) (take-append-drop n es) (among_back (take n es) (drop n es) e h)

pub none_anywhere : (es : List Entry) (n : ℕ) (e : Entry) → EachIs (IsEarlier e.seconds) (take n es) → (IsAmong (drop n es) e → ⊥) → IsAmong es e → ⊥
none_anywhere es n e earlier none h =
    elim (among_either (take n es) (drop n es) e (subst (λ (l : List Entry). IsAmong l e) (sym (take-append-drop n es)) h)) [
      | inl f ↦ not_among_earlier (take n es) e earlier f
      | inr b ↦ none b
    ]

-- what a look at those from an index on says of all
pub anywhere : (r : Bool) (es : List Entry) (n : ℕ) (e : Entry) → EachIs (IsEarlier e.seconds) (take n es) → MatchBool r (IsAmong (drop n es) e) (IsAmong (drop n es) e → ⊥)
    → MatchBool r (IsAmong es e) (IsAmong es e → ⊥)
anywhere true es n e earlier h = among_from es n e h
anywhere false es n e earlier h = none_anywhere es n e earlier h
