-- Listings with one more line.
use Rattle.std.proofs.Common.{◌≡◌, ◌∙◌, Bool, true, false, Result, Ok, Err, ℕ, cond, ap, subst, sym, List, [], ◌∷◌, ◌++◌}
use Rattle.std.specs.List.{filter}
use Rattle.std.proofs.lemmas.Grind.{flat_map-append}
use Rattle.std.proofs.lemmas.List.{append-nil, append_assoc}
use Rattle.std.proofs.lemmas.List.Elements.{filter-append}
use Rattle.krb_file_tools.specs.Lines.{AreLinesOf, IsListing}
use Rattle.krb_show_text.specs.Text.{AreLines, ArePrintable, text_of_lines}
use Rattle.krb_show_text.proofs.Lines.{are_lines_append}

module _ {A : Type 0} (is_line : A → List ℕ → Type 0) where
  each_more : (xs : List A) (ls : List (List ℕ)) (x : A) (l : List ℕ) → AreLinesOf is_line xs ls → is_line x l → AreLinesOf is_line (xs ++ x ∷ []) (ls ++ l ∷ [])
  each_more [] [] x l p q = (q, tt)
  each_more [] (k ∷ ks) x l p q = absurd p
  each_more (y ∷ ys) [] x l p q = absurd p
  each_more (y ∷ ys) (k ∷ ks) x l p q = (p.0, each_more ys ks x l p.1 q)

  -- the first lines alone
  pub listing_none : (heads : List (List ℕ)) (text : List ℕ) → AreLines heads → text ≡ text_of_lines heads → IsListing heads is_line [] text
  listing_none heads text printable e = record {
    lines = [];
    each = tt;
    printable = subst AreLines (sym (append-nil heads)) printable;
    is = e ∙ ap text_of_lines (sym (append-nil heads));
  }

  -- one line more
  more_text : (heads lines : List (List ℕ)) (old line new : List ℕ) → old ≡ text_of_lines (heads ++ lines) → new ≡ old ++ line ++ 10 ∷ []
      → new ≡ text_of_lines (heads ++ (lines ++ line ∷ []))
  more_text heads lines old line new before e =
      let together : text_of_lines (heads ++ (lines ++ line ∷ [])) ≡ text_of_lines (heads ++ lines) ++ ((line ++ 10 ∷ []) ++ []) =
      ap text_of_lines (sym (append_assoc heads lines (line ∷ []))) ∙ flat_map-append (λ (l : List ℕ). l ++ 10 ∷ []) (heads ++ lines) (line ∷ []) in
      let ended : text_of_lines (heads ++ (lines ++ line ∷ [])) ≡ text_of_lines (heads ++ lines) ++ (line ++ 10 ∷ []) =
      together ∙ ap (λ (r : List ℕ). text_of_lines (heads ++ lines) ++ r) (append-nil (line ++ 10 ∷ [])) in
      let again : old ++ (line ++ 10 ∷ []) ≡ text_of_lines (heads ++ lines) ++ (line ++ 10 ∷ []) = ap (λ (o : List ℕ). o ++ (line ++ 10 ∷ [])) before in
      e ∙ (append_assoc old line (10 ∷ []) ∙ (again ∙ sym ended))

  pub listing_more : (heads : List (List ℕ)) (xs : List A) (old : List ℕ) (x : A) (line new : List ℕ) → IsListing heads is_line xs old → is_line x line
      → ArePrintable line → new ≡ old ++ line ++ 10 ∷ [] → IsListing heads is_line (xs ++ x ∷ []) new
  listing_more heads xs old x line new so q printable e = record {
    lines = so.lines ++ line ∷ [];
    each = each_more xs so.lines x line so.each q;
    printable = subst AreLines (append_assoc heads so.lines (line ∷ [])) (are_lines_append (heads ++ so.lines) (line ∷ []) so.printable (printable, tt));
    is = more_text heads so.lines old line new so.is e;
  }

  -- an item that the test takes, and one that it leaves out
  pub listing_taken : (test : A → Bool) (heads : List (List ℕ)) (xs : List A) (x : A) (text : List ℕ) → test x ≡ true
      → IsListing heads is_line (filter test xs ++ x ∷ []) text → IsListing heads is_line (filter test (xs ++ x ∷ [])) text
  listing_taken test heads xs x text e so =
      let rest : filter test (x ∷ []) ≡ x ∷ [] = ap (λ (b : Bool). cond b (x ∷ []) []) e in
      subst (λ (items : List A). IsListing heads is_line items text) (sym (filter-append test xs (x ∷ []) ∙ ap (λ (r : List A). filter test xs ++ r) rest)) so

  pub listing_left : (test : A → Bool) (heads : List (List ℕ)) (xs : List A) (x : A) (text : List ℕ) → test x ≡ false
      → IsListing heads is_line (filter test xs) text → IsListing heads is_line (filter test (xs ++ x ∷ [])) text
  listing_left test heads xs x text e so =
      let rest : filter test (x ∷ []) ≡ [] = ap (λ (b : Bool). cond b (x ∷ []) []) e in
      subst (λ (items : List A). IsListing heads is_line items text)
      (sym (filter-append test xs (x ∷ []) ∙ ap (λ (r : List A). filter test xs ++ r) rest ∙ append-nil (filter test xs))) so

-- what is read is no error
pub read_apart : {A E : Type 0} (x : A) (e : E) → (let o : Result A E = Ok x in o ≡ Err e) → ⊥
read_apart x e h = absurd cc
