-- Elements up to where none is to come.
use Rattle.std.proofs.Common.{◌≡◌, ℕ, zero, suc, ◌≤◌, ◌<◌, Bool, true, false, cond, List, [], ◌∷◌, ◌++◌, length, Result, Ok, Err, refl, sym, ap, ◌∙◌, append_assoc, arith, subst}
use Rattle.std.specs.List.{flat_map, AllByRecursion}
use Rattle.std.proofs.lemmas.List.{length-append, nil_from_length}
use Rattle.std.proofs.lemmas.List.Concat.{flat_map-cons}
use Rattle.krb_files.specs.FieldReading.{◌>>=◌, all_at, shown_all, shown_first}
use Rattle.krb_files.specs.Laws.{IsOctets, IsReading, bind_ok, ok_is}

-- Elements of an octet or more each, and a test of where none is to come, as at the end.
pub record IsSequence {A E : Type 0} (stop : List ℕ → Bool) (read : List ℕ → Result (A × List ℕ) E) (octets : A → List ℕ) (Fits : A → Type 0) : Type 0 where
  pub element : IsReading read octets Fits
  pub some : (x : A) → 0 < length (octets x)
  pub ends : stop [] ≡ true

-- one step: none is to come, or there is an element and then others
abbrev pub step : {A E : Type 0} → Bool → Result (A × List ℕ) E → (List ℕ → Result (List A) E) → Result (List A) E
step stop first others = cond stop (Ok []) (first >>= λ x. others x.1 >>= λ xs. Ok (x.0 ∷ xs))

pub shorter : {A E : Type 0} (stop : List ℕ → Bool) (read : List ℕ → Result (A × List ℕ) E) (octets : A → List ℕ) (Fits : A → Type 0) → IsSequence stop read octets Fits
    → (b : List ℕ) (x : A) (rest : List ℕ) → IsOctets b → read b ≡ Ok (x, rest) → length rest < length b
shorter stop read octets Fits s b x rest fits e =
    let t = s.element.takes b x rest fits e in
    omega (arith, s.some x, ap length t.0.parts, length-append (octets x) rest)

-- more steps than octets change nothing
same_steps : {A E : Type 0} (stop : List ℕ → Bool) (read : List ℕ → Result (A × List ℕ) E) (octets : A → List ℕ) (Fits : A → Type 0) → IsSequence stop read octets Fits
    → (m n : ℕ) (b : List ℕ) (s : Bool) (r : Result (A × List ℕ) E) → read b ≡ r → IsOctets b → length b ≤ suc m → length b ≤ suc n
    → ((c : List ℕ) → IsOctets c → length c ≤ m → length c ≤ n → all_at stop read m c ≡ all_at stop read n c)
    → step s r (all_at stop read m) ≡ step s r (all_at stop read n)
same_steps stop read octets Fits q m n b true r h fits le lf ih = refl
same_steps stop read octets Fits q m n b false (Err e) h fits le lf ih = refl
same_steps stop read octets Fits q m n b false (Ok x) h fits le lf ih =
    let t = q.element.takes b x.0 x.1 fits h in
    let less = shorter stop read octets Fits q b x.0 x.1 fits h in
    ap (λ r. r >>= λ xs. Ok (x.0 ∷ xs)) (ih x.1 t.0.rest_fits (omega arith) (omega arith))

pub all-fuel : {A E : Type 0} (stop : List ℕ → Bool) (read : List ℕ → Result (A × List ℕ) E) (octets : A → List ℕ) (Fits : A → Type 0) → IsSequence stop read octets Fits
    → (m n : ℕ) (b : List ℕ) → IsOctets b → length b ≤ m → length b ≤ n → all_at stop read m b ≡ all_at stop read n b
unfolding all_at
all-fuel stop read octets Fits q zero zero b fits le lf = refl
all-fuel stop read octets Fits q zero (suc n) b fits le lf = sym (rw (nil_from_length b (omega arith), q.ends) refl)
all-fuel stop read octets Fits q (suc m) zero b fits le lf = rw (nil_from_length b (omega arith), q.ends) refl
all-fuel stop read octets Fits q (suc m) (suc n) b fits le lf =
    same_steps stop read octets Fits q m n b (stop b) (read b) refl fits le lf (all-fuel stop read octets Fits q m n)

-- what elements were read from, and what is behind them
pub record TakesAll {A : Type 0} (stop : List ℕ → Bool) (octets : A → List ℕ) (Fits : A → Type 0) (b : List ℕ) (xs : List A) : Type 0 where
  pub end : List ℕ
  pub parts : b ≡ flat_map octets xs ++ end
  pub stops : stop end ≡ true
  pub fits : AllByRecursion Fits xs

taken_step : {A E : Type 0} (stop : List ℕ → Bool) (read : List ℕ → Result (A × List ℕ) E) (octets : A → List ℕ) (Fits : A → Type 0) → IsSequence stop read octets Fits
    → (n : ℕ) (b : List ℕ) (xs : List A) (s : Bool) → stop b ≡ s → IsOctets b → length b ≤ suc n
    → ((c : List ℕ) (ys : List A) → IsOctets c → length c ≤ n → all_at stop read n c ≡ Ok ys → TakesAll stop octets Fits c ys)
    → step s (read b) (all_at stop read n) ≡ Ok xs → TakesAll stop octets Fits b xs
taken_step {A = A} {E = E} stop read octets Fits q n b xs true h fits le ih e =
    let none : List A = [] in
    subst (TakesAll stop octets Fits b) (ok_is E none xs e) (record { end = b; parts = refl; stops = h; fits = tt })
taken_step {A = A} {E = E} stop read octets Fits q n b xs false h fits le ih e =
    let a = bind_ok (read b) (λ x. all_at stop read n x.1 >>= λ others. Ok (x.0 ∷ others)) xs e in
    let o = bind_ok (all_at stop read n a.0.1) (λ others. Ok (a.0.0 ∷ others)) xs a.2 in
    let t = q.element.takes b a.0.0 a.0.1 fits a.1 in
    let less = shorter stop read octets Fits q b a.0.0 a.0.1 fits a.1 in
    let u = ih a.0.1 o.0 t.0.rest_fits (omega arith) o.1 in
    let made : List A = a.0.0 ∷ o.0 in
    let parts : b ≡ flat_map octets made ++ u.end = t.0.parts ∙ ap (λ (l : List ℕ). octets a.0.0 ++ l) u.parts ∙ sym (append_assoc (octets a.0.0) (flat_map octets o.0) u.end) ∙ ap (λ (l : List ℕ). l ++ u.end) (sym (flat_map-cons octets a.0.0 o.0)) in
    subst (TakesAll stop octets Fits b) (ok_is E made xs o.2) (record { end = u.end; parts = parts; stops = u.stops; fits = (t.1, u.fits) })

pub all-takes : {A E : Type 0} (stop : List ℕ → Bool) (read : List ℕ → Result (A × List ℕ) E) (octets : A → List ℕ) (Fits : A → Type 0) → IsSequence stop read octets Fits
    → (n : ℕ) (b : List ℕ) (xs : List A) → IsOctets b → length b ≤ n → all_at stop read n b ≡ Ok xs → TakesAll stop octets Fits b xs
unfolding all_at
all-takes {A = A} {E = E} stop read octets Fits q zero b xs fits le e =
    let none : List A = [] in
    let empty : b ≡ [] = nil_from_length b (omega arith) in
    subst (TakesAll stop octets Fits b) (ok_is E none xs e) (record { end = b; parts = refl; stops = ap stop empty ∙ q.ends; fits = tt })
all-takes stop read octets Fits q (suc n) b xs fits le e = taken_step stop read octets Fits q n b xs (stop b) refl fits le (all-takes stop read octets Fits q n) e

-- elements that are written are read again, where none of them looks as if none were to come
pub all-again : {A E : Type 0} (stop : List ℕ → Bool) (read : List ℕ → Result (A × List ℕ) E) (octets : A → List ℕ) (Fits : A → Type 0) → IsReading read octets Fits
    → ((x : A) (rest : List ℕ) → Fits x → stop (octets x ++ rest) ≡ false)
    → (n : ℕ) (xs : List A) (end : List ℕ) → AllByRecursion Fits xs → stop end ≡ true → length xs ≤ n → all_at stop read n (flat_map octets xs ++ end) ≡ Ok xs
unfolding all_at
all-again stop read octets Fits r goes zero [] end fits h le = refl
all-again stop read octets Fits r goes zero (x ∷ xs) end fits h le = absurd (omega arith)
all-again stop read octets Fits r goes (suc n) [] end fits h le = rw h refl
all-again stop read octets Fits r goes (suc n) (x ∷ xs) end fits h le =
    let tail = flat_map octets xs ++ end in
    let regrouped : flat_map octets (x ∷ xs) ++ end ≡ octets x ++ tail = ap (λ (l : List ℕ). l ++ end) (flat_map-cons octets x xs) ∙ append_assoc (octets x) (flat_map octets xs) end in
    ap (all_at stop read (suc n)) regrouped ∙ rw (goes x tail fits.0, r.again x tail fits.0, all-again stop read octets Fits r goes n xs end fits.1 h (omega arith)) refl

-- ---- what is shown

shown_step : {A E : Type 0} (stop : List ℕ → Bool) (read : List ℕ → Result (A × List ℕ) E) (n : ℕ) (xs : List A) (s : Bool) (r : Result (A × List ℕ) E)
    → ((c : List ℕ) (ys : List A) → all_at stop read n c ≡ Ok ys → shown_all stop read n c ≡ ys)
    → step s r (all_at stop read n) ≡ Ok xs → cond s [] (shown_first r (shown_all stop read n)) ≡ xs
shown_step {A = A} {E = E} stop read n xs true r ih e =
    let none : List A = [] in
    ok_is E none xs e
shown_step stop read n xs false (Err f) ih e = absurd cc
shown_step {A = A} {E = E} stop read n xs false (Ok x) ih e =
    let o = bind_ok (all_at stop read n x.1) (λ others. Ok (x.0 ∷ others)) xs e in
    let made : List A = x.0 ∷ o.0 in
    ap (λ (l : List A). x.0 ∷ l) (ih x.1 o.0 o.1) ∙ ok_is E made xs o.2

-- elements that were read are shown
pub shown-all : {A E : Type 0} (stop : List ℕ → Bool) (read : List ℕ → Result (A × List ℕ) E) (n : ℕ) (b : List ℕ) (xs : List A) → all_at stop read n b ≡ Ok xs → shown_all stop read n b ≡ xs
unfolding all_at shown_all
shown-all {A = A} {E = E} stop read zero b xs e =
    let none : List A = [] in
    ok_is E none xs e
shown-all stop read (suc n) b xs e = shown_step stop read n xs (stop b) (read b) (shown-all stop read n) e

shown_same : {A E : Type 0} (stop : List ℕ → Bool) (read : List ℕ → Result (A × List ℕ) E) (octets : A → List ℕ) (Fits : A → Type 0) → IsSequence stop read octets Fits
    → (m n : ℕ) (b : List ℕ) (s : Bool) (r : Result (A × List ℕ) E) → read b ≡ r → IsOctets b → length b ≤ suc m → length b ≤ suc n
    → ((c : List ℕ) → IsOctets c → length c ≤ m → length c ≤ n → shown_all stop read m c ≡ shown_all stop read n c)
    → cond s [] (shown_first r (shown_all stop read m)) ≡ cond s [] (shown_first r (shown_all stop read n))
shown_same stop read octets Fits q m n b true r h fits le lf ih = refl
shown_same stop read octets Fits q m n b false (Err e) h fits le lf ih = refl
shown_same stop read octets Fits q m n b false (Ok x) h fits le lf ih =
    let t = q.element.takes b x.0 x.1 fits h in
    let less = shorter stop read octets Fits q b x.0 x.1 fits h in
    ap (λ xs. x.0 ∷ xs) (ih x.1 t.0.rest_fits (omega arith) (omega arith))

-- more steps than octets show no more
pub shown-fuel : {A E : Type 0} (stop : List ℕ → Bool) (read : List ℕ → Result (A × List ℕ) E) (octets : A → List ℕ) (Fits : A → Type 0) → IsSequence stop read octets Fits
    → (m n : ℕ) (b : List ℕ) → IsOctets b → length b ≤ m → length b ≤ n → shown_all stop read m b ≡ shown_all stop read n b
unfolding shown_all
shown-fuel stop read octets Fits q zero zero b fits le lf = refl
shown-fuel stop read octets Fits q zero (suc n) b fits le lf = sym (rw (nil_from_length b (omega arith), q.ends) refl)
shown-fuel stop read octets Fits q (suc m) zero b fits le lf = rw (nil_from_length b (omega arith), q.ends) refl
shown-fuel stop read octets Fits q (suc m) (suc n) b fits le lf =
    shown_same stop read octets Fits q m n b (stop b) (read b) refl fits le lf (shown-fuel stop read octets Fits q m n)

-- ---- as a loop reads and shows them: as many steps as there are octets

-- elements were read, and then these octets are left
abbrev pub IsReadTo : {A E : Type 0} → (List ℕ → Bool) → (List ℕ → Result (A × List ℕ) E) → List ℕ → List ℕ → Type 0
IsReadTo {A = A} stop read b rest = (front : List A) × ((all_at stop read (length rest) rest >>= λ xs. Ok (front ++ xs)) ≡ all_at stop read (length b) b)

bind_again : {A E : Type 0} (r : Result (List A) E) → (r >>= λ xs. Ok ([] ++ xs)) ≡ r
bind_again (Ok x) = refl
bind_again (Err e) = refl

regroup : {A E : Type 0} (front : List A) (x : A) (r : Result (List A) E) → ((r >>= λ xs. Ok (x ∷ xs)) >>= λ xs. Ok (front ++ xs)) ≡ (r >>= λ xs. Ok ((front ++ x ∷ []) ++ xs))
regroup front x (Ok y) = ap (λ l. Ok l) (simp append_assoc)
regroup front x (Err e) = refl

pub reads-none : {A E : Type 0} (stop : List ℕ → Bool) (read : List ℕ → Result (A × List ℕ) E) (b : List ℕ) → IsReadTo stop read b b
reads-none stop read b = ([], bind_again (all_at stop read (length b) b))

-- one step, where there is an octet
one_step : {A E : Type 0} (stop : List ℕ → Bool) (read : List ℕ → Result (A × List ℕ) E) (octets : A → List ℕ) (Fits : A → Type 0) → IsSequence stop read octets Fits
    → (k : ℕ) (b : List ℕ) (x : A) (rest : List ℕ) → IsOctets b → length b ≡ k → stop b ≡ false → read b ≡ Ok (x, rest)
    → (all_at stop read k b ≡ (all_at stop read (length rest) rest >>= λ xs. Ok (x ∷ xs))) × (shown_all stop read k b ≡ x ∷ shown_all stop read (length rest) rest)
unfolding all_at shown_all
one_step stop read octets Fits q zero b x rest fits k h e =
    let less = shorter stop read octets Fits q b x rest fits e in
    absurd (omega arith)
one_step stop read octets Fits q (suc k) b x rest fits long h e =
    let t = q.element.takes b x rest fits e in
    let less = shorter stop read octets Fits q b x rest fits e in
    let same = all-fuel stop read octets Fits q k (length rest) rest t.0.rest_fits (omega arith) (omega arith) in
    let same_shown = shown-fuel stop read octets Fits q k (length rest) rest t.0.rest_fits (omega arith) (omega arith) in
    (rw (h, e, same) refl, rw (h, e, same_shown) refl)

pub reads-more : {A E : Type 0} (stop : List ℕ → Bool) (read : List ℕ → Result (A × List ℕ) E) (octets : A → List ℕ) (Fits : A → Type 0) → IsSequence stop read octets Fits
    → (b rest : List ℕ) (x : A) (after : List ℕ) → IsOctets rest → stop rest ≡ false → read rest ≡ Ok (x, after) → IsReadTo stop read b rest → IsReadTo stop read b after
reads-more stop read octets Fits q b rest x after fits h e so_far =
    let one = (one_step stop read octets Fits q (length rest) rest x after fits refl h e).0 in
    (so_far.0 ++ x ∷ [], sym (regroup so_far.0 x (all_at stop read (length after) after)) ∙ ap (λ r. r >>= λ xs. Ok (so_far.0 ++ xs)) (sym one) ∙ so_far.1)

error_step : {A E : Type 0} (stop : List ℕ → Bool) (read : List ℕ → Result (A × List ℕ) E) (k : ℕ) (b : List ℕ) (e : E) → 0 < k → stop b ≡ false → read b ≡ Err e → (all_at stop read k b ≡ Err e) × (shown_all stop read k b ≡ [])
unfolding all_at shown_all
error_step stop read zero b e lt h f = absurd (omega arith)
error_step stop read (suc k) b e lt h f = (rw (h, f) refl, rw (h, f) refl)

pub reads-error : {A E : Type 0} (stop : List ℕ → Bool) (read : List ℕ → Result (A × List ℕ) E) (b rest : List ℕ) (e : E) → 0 < length rest → stop rest ≡ false → read rest ≡ Err e
    → IsReadTo stop read b rest → all_at stop read (length b) b ≡ Err e
reads-error stop read b rest e lt h f so_far =
    sym so_far.1 ∙ ap (λ r. r >>= λ xs. Ok (so_far.0 ++ xs)) (error_step stop read (length rest) rest e lt h f).0

end_step : {A E : Type 0} (stop : List ℕ → Bool) (read : List ℕ → Result (A × List ℕ) E) (k : ℕ) (b : List ℕ) → stop b ≡ true → (all_at stop read k b ≡ Ok []) × (shown_all stop read k b ≡ [])
unfolding all_at shown_all
end_step stop read zero b h = (refl, refl)
end_step stop read (suc k) b h = (rw h refl, rw h refl)

pub reads-all : {A E : Type 0} (stop : List ℕ → Bool) (read : List ℕ → Result (A × List ℕ) E) (b rest : List ℕ) → stop rest ≡ true → IsReadTo stop read b rest
    → all_at stop read (length b) b ≡ Ok (shown_all stop read (length b) b)
reads-all stop read b rest h so_far =
    let all : all_at stop read (length b) b ≡ Ok (so_far.0 ++ []) = sym so_far.1 ∙ ap (λ r. r >>= λ xs. Ok (so_far.0 ++ xs)) (end_step stop read (length rest) rest h).0 in
    all ∙ ap (λ l. Ok l) (sym (shown-all stop read (length b) b (so_far.0 ++ []) all))

-- the first that is shown, and none where none is to come
pub shows-first : {A E : Type 0} (stop : List ℕ → Bool) (read : List ℕ → Result (A × List ℕ) E) (octets : A → List ℕ) (Fits : A → Type 0) → IsSequence stop read octets Fits
    → (b : List ℕ) (x : A) (rest : List ℕ) → IsOctets b → stop b ≡ false → read b ≡ Ok (x, rest) → shown_all stop read (length b) b ≡ x ∷ shown_all stop read (length rest) rest
shows-first stop read octets Fits q b x rest fits h e = (one_step stop read octets Fits q (length b) b x rest fits refl h e).1

pub shows-none : {A E : Type 0} (stop : List ℕ → Bool) (read : List ℕ → Result (A × List ℕ) E) (b : List ℕ) → stop b ≡ true → shown_all stop read (length b) b ≡ []
shows-none stop read b h = (end_step stop read (length b) b h).1

pub shows-error : {A E : Type 0} (stop : List ℕ → Bool) (read : List ℕ → Result (A × List ℕ) E) (b : List ℕ) (e : E) → 0 < length b → stop b ≡ false → read b ≡ Err e → shown_all stop read (length b) b ≡ []
shows-error stop read b e lt h f = (error_step stop read (length b) b e lt h f).1
