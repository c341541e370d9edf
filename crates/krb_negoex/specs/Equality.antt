-- When comparisons are true.
use Rattle.std.proofs.Common.{◌≡◌, ◌↔◌, List, [], ◌∷◌, map, drop, length, slice_index_or, Bool, true, false, ◌&&◌, IsTrue, nat_eq, refl, sym, ap, ◌∙◌, arith, rules, eq-eqb}
use Rattle.std.proofs.lemmas.Bool.{eqb-true}
use Rattle.std.specs.Cmp.{first_so, second_so}
use Rattle.std.specs.Cmp.Lexicographic.{pointwise, bytes_decides}

-- the test returns true for equal values and for no others
abbrev pub DecidesEqual : {A : Type 0} → (A → A → Bool) → Type 0
DecidesEqual {A} eq = (a b : A) → IsTrue (eq a b) ↔ (a ≡ b)

-- the test returns true for values of equal parts and for no others
abbrev pub DecidesEqualBy : {A P : Type 0} → (A → P) → (A → A → Bool) → Type 0
DecidesEqualBy {A} parts eq = (a b : A) → IsTrue (eq a b) ↔ (parts a ≡ parts b)

-- a clone is the value again
abbrev pub ClonesValue : {A : Type 0} → (A → A → Type 0) → Type 0
ClonesValue {A} is_clone = (a b : A) → is_clone a b → b ≡ a

and_both : (b c : Bool) → b ≡ true → c ≡ true → (b && c) ≡ true
and_both true c e f = f
and_both false c e f = e

pub numbers_decide : DecidesEqual nat_eq
numbers_decide a b = (eqb-true a b, eq-eqb a b)

pub octets_decide : DecidesEqual (pointwise nat_eq)
octets_decide a b = bytes_decides a b

same_both : {A B : Type 0} (v w : A × B) → v.0 ≡ w.0 → v.1 ≡ w.1 → v ≡ w
same_both {A} {B} v w d e = ap (λ (a : A). (a, v.1)) d ∙ ap (λ (b : B). (w.0, b)) e

-- two tests, each of its half
pub pair_decides : {A B P Q : Type 0} (p : A → P) (q : B → Q) {e : A → A → Bool} {f : B → B → Bool} → DecidesEqualBy p e → DecidesEqualBy q f
    → DecidesEqualBy {A = A × B} {P = P × Q} (λ (v : A × B). (p v.0, q v.1)) (λ (v w : A × B). e v.0 w.0 && f v.1 w.1)
pair_decides {P = P} {Q} p q {e} {f} g h v w = (
  λ k. same_both (p v.0, q v.1) (p w.0, q w.1) ((g v.0 w.0).0 (first_so (e v.0 w.0) (f v.1 w.1) k)) ((h v.1 w.1).0 (second_so (e v.0 w.0) (f v.1 w.1) k)),
  λ k. and_both (e v.0 w.0) (f v.1 w.1) ((g v.0 w.0).1 (ap (λ (x : P × Q). x.0) k)) ((h v.1 w.1).1 (ap (λ (x : P × Q). x.1) k)),
)

-- of what is seen of a value
pub seen_decides : {A B P : Type 0} (see : A → B) (p : B → P) {e : B → B → Bool} → DecidesEqualBy p e → DecidesEqualBy (λ (v : A). p (see v)) (λ (v w : A). e (see v) (see w))
seen_decides see p h v w = h (see v) (see w)

-- of parts that are put in another order, and back
pub turned_decides : {A P Q : Type 0} (p : A → P) {e : A → A → Bool} (to : P → Q) (back : Q → P) → ((x : P) → back (to x) ≡ x) → DecidesEqualBy p e → DecidesEqualBy (λ (v : A). to (p v)) e
turned_decides p to back same h v w = (
  λ k. ap to ((h v w).0 k),
  λ k. (h v w).1 (sym (same (p v)) ∙ ap back k ∙ same (p w)),
)

no_empty : {P : Type 0} (x : P) (xs : List P) → [] ≡ x ∷ xs → ⊥
no_empty x xs e = let n = ap length e in omega arith

false_true : false ≡ true → ⊥
false_true h = search rules

-- of each element
pub list_decides : {A P : Type 0} (p : A → P) {e : A → A → Bool} → DecidesEqualBy p e → DecidesEqualBy (map p) (pointwise e)
list_decides p h [] [] = (λ k. refl, λ k. refl)
list_decides p h [] (w ∷ ws) = (λ k. absurd (false_true k), λ k. absurd (no_empty (p w) (map p ws) k))
list_decides p h (v ∷ vs) [] = (λ k. absurd (false_true k), λ k. absurd (no_empty (p v) (map p vs) (sym k)))
list_decides {P = P} p {e} h (v ∷ vs) (w ∷ ws) = (
  λ k. ap (λ (x : P). x ∷ map p vs) ((h v w).0 (first_so (e v w) (pointwise e vs ws) k)) ∙ ap (λ (xs : List P). p w ∷ xs) ((list_decides p h vs ws).0 (second_so (e v w) (pointwise e vs ws) k)),
  λ k. and_both (e v w) (pointwise e vs ws) ((h v w).1 (ap (λ (xs : List P). slice_index_or xs 0 (p v)) k)) ((list_decides p h vs ws).1 (ap (drop 1) k)),
)
