-- The lines of a text.
use Rattle.std.proofs.Common.{◌≡◌, ℕ, true, refl, sym, ap, ◌∙◌, List, [], ◌∷◌, ◌++◌, arith}
use Rattle.std.proofs.lemmas.List.{append_assoc}
use Rattle.std.proofs.lemmas.Grind.{common_steps}
use Rattle.krb_show_text.specs.Text.{IsPrintable, ArePrintable, AreLines, is_printable, text_of_lines}
use Rattle.krb_show_row_laws.specs.Telling.{all_of}
use Rattle.krb_show_row_laws.proofs.SplitLaws.{and_both, split, tail}

passes_printable : (x : ℕ) → IsPrintable x → is_printable x ≡ true
passes_printable x h = let low = h.0 in let high = h.1 in grind (arith, common_steps)

all_printable : (xs : List ℕ) → ArePrintable xs → all_of is_printable xs ≡ true
all_printable [] h = refl
all_printable (x ∷ xs) h = and_both (is_printable x) (all_of is_printable xs) (passes_printable x h.0) (all_printable xs h.1)

line_feed_long : (l rest : List ℕ) → [] ≡ (l ++ 10 ∷ []) ++ rest → ⊥
line_feed_long [] rest e = cc
line_feed_long (x ∷ xs) rest e = cc

-- lines of printable ASCII are told apart by their text
pub one_lines : (ls ms : List (List ℕ)) → AreLines ls → AreLines ms → text_of_lines ls ≡ text_of_lines ms → ls ≡ ms
one_lines [] [] h k e = refl
one_lines [] (m ∷ ms) h k e = absurd (line_feed_long m (text_of_lines ms) e)
one_lines (l ∷ ls) [] h k e = absurd (line_feed_long l (text_of_lines ls) (sym e))
one_lines (l ∷ ls) (m ∷ ms) h k e =
    let same = split is_printable l m (10 ∷ text_of_lines ls) (10 ∷ text_of_lines ms) (all_printable l h.0) (all_printable m k.0) refl refl
    (sym (append_assoc l (10 ∷ []) (text_of_lines ls)) ∙ e ∙ append_assoc m (10 ∷ []) (text_of_lines ms)) in
    let rest = one_lines ls ms h.1 k.1 (tail 10 10 (text_of_lines ls) (text_of_lines ms) same.1) in
    ap (λ z. z ∷ ls) same.0 ∙ ap (λ (zs : List (List ℕ)). m ∷ zs) rest
