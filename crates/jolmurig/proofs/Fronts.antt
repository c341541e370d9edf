-- The front of printable lines, and a line feed, are printable lines.
use Rattle.std.proofs.Common.{arith, ap, sym, ◌∙◌, refl, subst, ℕ, zero, suc, ◌≡◌, ◌-◌, ◌+◌, ◌≤◌, nat_le, Bool, true, false, List, [], ◌∷◌, ◌++◌, take, length}
use Rattle.std.proofs.Math.Seq.{take-append-add, take-nil}
use Rattle.std.proofs.lemmas.Grind.{common_steps}
use Rattle.std.proofs.lemmas.List.{append-nil, append_assoc, length-append, take-append-le}
use Rattle.krb_show_text.specs.Text.{ArePrintable, AreLines, text_of_lines}

front_printable : (n : ℕ) (l : List ℕ) → ArePrintable l → ArePrintable (take n l)
front_printable n [] p = subst ArePrintable (sym (take-nil n)) tt
front_printable zero (x ∷ l) p = tt
front_printable (suc n) (x ∷ l) p = (p.0, front_printable n l p.1)

abbrev pub IsFront : ℕ → List (List ℕ) → Type 0
IsFront n lines = (made : List (List ℕ)) × (take n (text_of_lines lines) ++ 10 ∷ [] ≡ text_of_lines made) × AreLines made

front_step : (b : Bool) (n : ℕ) (l : List ℕ) (ls : List (List ℕ)) → nat_le n (length l) ≡ b → ArePrintable l → ((m : ℕ) → IsFront m ls) → IsFront n (l ∷ ls)
front_step true n l ls e p rest =
    let small : n ≤ length l = grind (arith, common_steps) in
    let cut = ap (take n) (append_assoc l (10 ∷ []) (text_of_lines ls)) ∙ take-append-le n l (10 ∷ [] ++ text_of_lines ls) small in
    (take n l ∷ [], ap (λ t. t ++ 10 ∷ []) cut ∙ sym (append-nil (take n l ++ 10 ∷ [])), (front_printable n l p, tt))
front_step false n l ls e p rest =
    let large : length l + 1 ≤ n = grind (arith, common_steps) in
    let m = n - (length l + 1) in
    let r = rest m in
    let size : n ≡ length (l ++ 10 ∷ []) + m = omega (arith, large, length-append l (10 ∷ [])) in
    let cut = ap (λ k. take k ((l ++ 10 ∷ []) ++ text_of_lines ls)) size ∙ take-append-add (l ++ 10 ∷ []) (text_of_lines ls) m in
    (l ∷ r.0, ap (λ t. t ++ 10 ∷ []) cut ∙ append_assoc (l ++ 10 ∷ []) (take m (text_of_lines ls)) (10 ∷ []) ∙ ap (λ t. (l ++ 10 ∷ []) ++ t) r.1, (p, r.2))

pub front_lines : (lines : List (List ℕ)) (n : ℕ) → AreLines lines → IsFront n lines
front_lines [] n p = ([] ∷ [], ap (λ t. t ++ 10 ∷ []) (take-nil n), (tt, tt))
front_lines (l ∷ ls) n p = front_step (nat_le n (length l)) n l ls refl p.0 (λ m. front_lines ls m p.1)
