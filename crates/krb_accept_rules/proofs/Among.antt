-- Entries in a cache.
use Rattle.std.proofs.Common.{◌≡◌, inl, inr, ◌⊎◌, ℕ, ℤ, pos, ◌+ℤ◌, ◌≤ℤ◌, Bool, true, false, cond, List, [], ◌∷◌, ◌++◌, refl, sym, subst, ap, ◌∙◌, arith}
use Rattle.std.proofs.lemmas.Int.{ints}
use lib.Dec.{T}
use Rattle.std.specs.Prelude.{filter, int_le}
use Rattle.krb_accept_rules.specs.Names.{IsAmong}
use Rattle.krb_accept_rules.specs.Remembering.{IsHistory, IsKept, IsWith, IsWithout, Step, forgets, records}
use Rattle.krb_accept_rules.specs.declared.cache.Entry.{Entry}

-- what is there stays there, whatever is put before
pub among_behind : {A : Type 0} (y x : A) (xs : List A) → IsAmong xs x → IsAmong (y ∷ xs) x
among_behind y x xs h = record { front = y ∷ h.front; back = h.back; among = ap (λ l. y ∷ l) h.among }

split_front : {A : Type 0} (front back : List A) (y x : A) (xs : List A) → y ∷ xs ≡ front ++ x ∷ back → (y ≡ x) ⊎ IsAmong xs x
split_front [] back y x xs e = inl cc
split_front (z ∷ front) back y x xs e = inr (record { front = front; back = back; among = cc })

-- what is there is the first, or among the rest
pub among_split : {A : Type 0} (y x : A) (xs : List A) → IsAmong (y ∷ xs) x → (y ≡ x) ⊎ IsAmong xs x
among_split y x xs h = split_front h.front h.back y x xs h.among

kept_or_not : {A : Type 0} (b : Bool) (y x : A) (xs : List A) → IsAmong xs x → IsAmong (cond b (y ∷ xs) xs) x
kept_or_not true y x xs h = among_behind y x xs h
kept_or_not false y x xs h = h

-- what passes the test stays
pub passes_stays : {A : Type 0} (test : A → Bool) (front back : List A) (x : A) → test x ≡ true → IsAmong (filter test (front ++ x ∷ back)) x
passes_stays test [] back x e = rw e (record { front = []; back = filter test back; among = refl })
passes_stays test (y ∷ front) back x e = kept_or_not (test y) y x (filter test (front ++ x ∷ back)) (passes_stays test front back x e)

was_kept : {A : Type 0} (b : Bool) (y x : A) (kept xs : List A) → (IsAmong kept x → IsAmong xs x) → IsAmong (cond b (y ∷ kept) kept) x → IsAmong (y ∷ xs) x
was_kept true y x kept xs f h = elim (among_split y x kept h) [ inl e ↦ record { front = []; back = xs; among = ap (λ z. z ∷ xs) e } | inr k ↦ among_behind y x xs (f k) ]
was_kept false y x kept xs f h = among_behind y x xs (f h)

-- and what stays was there
pub stays_was : {A : Type 0} (test : A → Bool) (xs : List A) (x : A) → IsAmong (filter test xs) x → IsAmong xs x
stays_was test [] x h = h
stays_was test (y ∷ xs) x h = was_kept (test y) y x (filter test xs) xs (stays_was test xs x) h

none_there : {A : Type 0} (front back : List A) (x : A) → [] ≡ front ++ x ∷ back → ⊥
none_there [] back x e = cc
none_there (y ∷ front) back x e = cc

passed_here : {A : Type 0} (test : A → Bool) (b : Bool) (y x : A) (kept : List A) → test y ≡ b → (IsAmong kept x → test x ≡ true) → IsAmong (cond b (y ∷ kept) kept) x → test x ≡ true
passed_here test true y x kept e f h = elim (among_split y x kept h) [ inl same ↦ ap test (sym same) ∙ e | inr k ↦ f k ]
passed_here test false y x kept e f h = f h

-- and passed the test
pub stays_passed : {A : Type 0} (test : A → Bool) (xs : List A) (x : A) → IsAmong (filter test xs) x → test x ≡ true
stays_passed test [] x h = absurd (none_there h.front h.back x h.among)
stays_passed test (y ∷ xs) x h = passed_here test (test y) y x (filter test xs) refl (stays_passed test xs x) h

test_passes : (b : Bool) → T b → b ≡ true
test_passes true t = refl
test_passes false t = absurd t

later_yet : (a b c : ℤ) → a ≤ℤ b → b ≤ℤ c → a ≤ℤ c
later_yet a b c h k = omega (arith, ints)

-- the test of what is kept
abbrev pub is_kept : ℤ → ℕ → Entry → Bool
is_kept clock skew e = int_le clock (e.seconds +ℤ pos skew)

kept_passes : (clock : ℤ) (skew : ℕ) (e : Entry) → IsKept clock skew e → is_kept clock skew e ≡ true
kept_passes clock skew e h = test_passes _ h.le

passes_kept : (clock : ℤ) (skew : ℕ) (e : Entry) → is_kept clock skew e ≡ true → IsKept clock skew e
passes_kept clock skew e h = record { le = subst (λ b. T b) (sym h) tt }

-- what the test leaves
pub without : (clock : ℤ) (skew : ℕ) (seen : List Entry) → IsWithout clock skew seen (filter (is_kept clock skew) seen)
without clock skew seen = record {
  stays = λ x h k. subst (λ (l : List Entry). IsAmong (filter (is_kept clock skew) l) x) (sym h.among) (passes_stays (is_kept clock skew) h.front h.back x (kept_passes clock skew x k));
  was = λ x h. stays_was (is_kept clock skew) seen x h;
  kept = λ x h. passes_kept clock skew x (stays_passed (is_kept clock skew) seen x h);
}

-- what is there stays there, as long as no clock is later than one within the skew
pub stays : (skew : ℕ) (later : ℤ) (steps : List Step) (seen after : List Entry) (e : Entry) → IsHistory skew later steps seen after → IsAmong seen e → later ≤ℤ (e.seconds +ℤ pos skew) → IsAmong after e
stays skew later [] seen after e h k fits = subst (λ (l : List Entry). IsAmong l e) (sym h) k
stays skew later (records x ∷ steps) seen after e h k fits = stays skew later steps h.0 after e h.3 (h.2.stays e k) fits
stays skew later (forgets clock ∷ steps) seen after e h k fits =
    stays skew later steps h.0 after e h.3 (h.2.stays e k (later_yet clock later (e.seconds +ℤ pos skew) h.1 fits)) fits

added : (e x : Entry) (seen next : List Entry) (steps : List Step) → IsWith seen e next → IsAmong next x ⊎ IsAmong steps (records x) → IsAmong seen x ⊎ IsAmong (records e ∷ steps) (records x)
added e x seen next steps w (inl h) =
    elim (w.only x h) [ inl was ↦ inl was | inr is ↦ inr (record { front = []; back = steps; among = ap (λ (y : Entry). records y ∷ steps) (sym is) }) ]
added e x seen next steps w (inr h) = inr (among_behind (records e) (records x) steps h)

-- nothing comes there but by being recorded
pub recorded : (skew : ℕ) (later : ℤ) (steps : List Step) (seen after : List Entry) (e : Entry) → IsHistory skew later steps seen after → IsAmong after e → IsAmong seen e ⊎ IsAmong steps (records e)
recorded skew later [] seen after e h k = inl (subst (λ (l : List Entry). IsAmong l e) h k)
recorded skew later (records x ∷ steps) seen after e h k = added x e seen h.0 steps h.2 (recorded skew later steps h.0 after e h.3 k)
recorded skew later (forgets clock ∷ steps) seen after e h k =
    elim (recorded skew later steps h.0 after e h.3 k) [ inl there ↦ inl (h.2.was e there) | inr more ↦ inr (among_behind (forgets clock) (records e) steps more) ]
