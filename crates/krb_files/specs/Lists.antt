-- Elements that are read one after the other, as a loop reads them.
use Rattle.std.proofs.Common.{◌≡◌, ℕ, zero, suc, ◌-◌, ◌+◌, ◌≤◌, ◌<◌, List, [], ◌∷◌, ◌++◌, Result, Ok, Err, refl, sym, ap, ◌∙◌, append_assoc, arith}
use Rattle.std.proofs.lemmas.List.{append-nil}
use Rattle.krb_files.specs.FieldReading.{◌>>=◌, list_at, shown_list}

-- what is shown of elements: none, or the first and the others, or none where the first is not read
pub shown-none : {A E : Type 0} (read : List ℕ → Result (A × List ℕ) E) (k : ℕ) (b : List ℕ) → k ≡ 0 → shown_list read k b ≡ []
unfolding shown_list
shown-none read k b e = rw e refl

pub shown-first : {A E : Type 0} (read : List ℕ → Result (A × List ℕ) E) (k : ℕ) (b : List ℕ) (x : A) (rest : List ℕ) → 0 < k → read b ≡ Ok (x, rest)
    → shown_list read k b ≡ x ∷ shown_list read (k - 1) rest
unfolding shown_list
shown-first read zero b x rest h e = absurd (omega arith)
shown-first read (suc k) b x rest h e =
    let one : suc k - 1 ≡ k = omega arith in
    rw (e, one) refl

pub shown-error : {A E : Type 0} (read : List ℕ → Result (A × List ℕ) E) (k : ℕ) (b : List ℕ) (e : E) → read b ≡ Err e → shown_list read k b ≡ []
unfolding shown_list
shown-error read zero b e h = refl
shown-error read (suc k) b e h = rw h refl

two : {A E : Type 0} (r : Result (List A × List ℕ) E) (x : A) (y : List A × List ℕ) → (r >>= λ others. Ok (x ∷ others.0, others.1)) ≡ Ok y
    → (o : List A × List ℕ) × (r ≡ Ok o) × (x ∷ o.0 ≡ y.0)
two (Ok o) x y e = (o, refl, cc)
two (Err f) x y e = absurd cc

nil_is : {A E : Type 0} (b : List ℕ) (x : List A × List ℕ) → (let o : Result (List A × List ℕ) E = Ok ([], b) in o ≡ Ok x) → [] ≡ x.0
nil_is b x e = cc

shown-read : {A E : Type 0} (read : List ℕ → Result (A × List ℕ) E) (k : ℕ) (r : Result (A × List ℕ) E) (b : List ℕ) (x : List A × List ℕ) → read b ≡ r
    → (r >>= λ first. list_at read k first.1 >>= λ others. Ok (first.0 ∷ others.0, others.1)) ≡ Ok x
    → ((c : List ℕ) (y : List A × List ℕ) → list_at read k c ≡ Ok y → shown_list read k c ≡ y.0) → shown_list read (suc k) b ≡ x.0
unfolding shown_list
shown-read read k (Err e) b x h total ih = absurd cc
shown-read {A = A} {E = E} read k (Ok f) b x h total ih =
    let rest = two (list_at read k f.1) f.0 x total in
    rw (h, ih f.1 rest.0 rest.1) rest.2

-- elements that were read are shown
pub shown-is : {A E : Type 0} (read : List ℕ → Result (A × List ℕ) E) (k : ℕ) (b : List ℕ) (x : List A × List ℕ) → list_at read k b ≡ Ok x → shown_list read k b ≡ x.0
unfolding list_at
shown-is read zero b x e = shown-none read zero b refl ∙ nil_is b x e
shown-is read (suc k) b x e = shown-read read k (read b) b x refl e (shown-is read k)

-- what was read before, and what is still read
abbrev pub with_front : {A E : Type 0} → List A → Result (List A × List ℕ) E → Result (List A × List ℕ) E
with_front front (Ok x) = Ok (front ++ x.0, x.1)
with_front front (Err e) = Err e

regroup : {A E : Type 0} (front : List A) (x : A) (r : Result (List A × List ℕ) E) → with_front front (r >>= λ others. Ok (x ∷ others.0, others.1)) ≡ with_front (front ++ x ∷ []) r
regroup front x (Ok y) = ap (λ l. Ok (l, y.1)) (simp append_assoc)
regroup front x (Err e) = refl

with_none : {A E : Type 0} (r : Result (List A × List ℕ) E) → with_front [] r ≡ r
with_none (Ok x) = refl
with_none (Err e) = refl

-- elements were read, and so many are left
abbrev pub IsReadUpTo : {A E : Type 0} → (List ℕ → Result (A × List ℕ) E) → ℕ → List ℕ → ℕ → List ℕ → Type 0
IsReadUpTo {A = A} read count b i rest = (front : List A) × (with_front front (list_at read (count - i) rest) ≡ list_at read count b)

pub read-none : {A E : Type 0} (read : List ℕ → Result (A × List ℕ) E) (count : ℕ) (b : List ℕ) → IsReadUpTo read count b 0 b
read-none read count b =
    let k : count - 0 ≡ count = omega arith in
    ([], rw k (with_none (list_at read count b)))

pub read-more : {A E : Type 0} (read : List ℕ → Result (A × List ℕ) E) (count : ℕ) (b : List ℕ) (i : ℕ) (rest : List ℕ) (x : A) (after : List ℕ) → i < count
    → read rest ≡ Ok (x, after) → IsReadUpTo read count b i rest → IsReadUpTo read count b (i + 1) after
unfolding list_at
read-more read count b i rest x after lt h so_far =
    let k : count - i ≡ suc (count - (i + 1)) = omega arith in
    let one : with_front so_far.0 (list_at read (count - i) rest) ≡ with_front (so_far.0 ++ x ∷ []) (list_at read (count - (i + 1)) after) =
    rw (k, h) (regroup so_far.0 x (list_at read (count - (i + 1)) after)) in
    (so_far.0 ++ x ∷ [], sym one ∙ so_far.1)

pub read-error : {A E : Type 0} (read : List ℕ → Result (A × List ℕ) E) (count : ℕ) (b : List ℕ) (i : ℕ) (rest : List ℕ) (e : E) → i < count
    → read rest ≡ Err e → IsReadUpTo read count b i rest → list_at read count b ≡ Err e
unfolding list_at
read-error read count b i rest e lt h so_far =
    let k : count - i ≡ suc (count - (i + 1)) = omega arith in
    let one : with_front so_far.0 (list_at read (count - i) rest) ≡ Err e = rw (k, h) refl in
    sym so_far.1 ∙ one

pub read-all : {A E : Type 0} (read : List ℕ → Result (A × List ℕ) E) (count : ℕ) (b : List ℕ) (i : ℕ) (rest : List ℕ) → count ≤ i
    → IsReadUpTo read count b i rest → list_at read count b ≡ Ok (shown_list read count b, rest)
unfolding list_at
read-all read count b i rest le so_far =
    let k : count - i ≡ 0 = omega arith in
    let one : with_front so_far.0 (list_at read (count - i) rest) ≡ Ok (so_far.0, rest) = rw k (ap (λ l. Ok (l, rest)) (append-nil so_far.0)) in
    let all = sym so_far.1 ∙ one in
    all ∙ ap (λ l. Ok (l, rest)) (sym (shown-is read count b (so_far.0, rest) all))
