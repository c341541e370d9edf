-- The text of the components of a name tells them.
use Rattle.std.proofs.Common.{◌≡◌, ◌≢◌, ℕ, suc, ◌<◌, refl, sym, ap, subst, ◌∙◌, List, [], ◌∷◌, ◌++◌, get_or, drop, length, Option, None, Some, arith}
use Rattle.std.specs.List.{AllByRecursion}
use Rattle.std.specs.Str.{IsAscii}
use Rattle.std.proofs.lemmas.Grind.{common_steps}
use Rattle.std.proofs.lemmas.List.{append_assoc}
use Rattle.std.proofs.lemmas.Str.{IsAscii-append}
use Rattle.std.proofs.lemmas.Str.Ascii.{IsAscii-nil, IsAscii-cons}
use Rattle.krb_types.specs.Principals.{marked}
use Rattle.krb_show.specs.NameTexts.{after_slashes, behind_mark, component_octet, component_text, name_text}

-- ---- their text is ASCII

letter_small : (x k : ℕ) → behind_mark x ≡ Some k → x < 128 → k < 128
letter_small x k e small = grind (arith, common_steps)

marked_ascii : (x : ℕ) (q : Option ℕ) → behind_mark x ≡ q → x < 128 → IsAscii (marked x q)
marked_ascii x None e small = IsAscii-cons x [] small IsAscii-nil
marked_ascii x (Some k) e small = IsAscii-cons 92 (k ∷ []) (omega arith) (IsAscii-cons k [] (letter_small x k e small) IsAscii-nil)

component_ascii : (xs : List ℕ) → IsAscii xs → IsAscii (component_text xs)
component_ascii [] h = IsAscii-nil
component_ascii (x ∷ xs) h =
    IsAscii-append (component_octet x) (component_text xs) (marked_ascii x (behind_mark x) refl (h 0)) (component_ascii xs (λ i. h (suc i)))

slashes_ascii : (cs : List (List ℕ)) → AllByRecursion IsAscii cs → IsAscii (after_slashes cs)
slashes_ascii [] h = IsAscii-nil
slashes_ascii (c ∷ cs) h =
    IsAscii-append (47 ∷ component_text c) (after_slashes cs) (IsAscii-cons 47 (component_text c) (omega arith) (component_ascii c h.0))
    (slashes_ascii cs h.1)

pub text_ascii : (c : List ℕ) (cs : List (List ℕ)) → AllByRecursion IsAscii (c ∷ cs) → IsAscii (name_text (c ∷ cs))
text_ascii c cs h = IsAscii-append (component_text c) (after_slashes cs) (component_ascii c h.0) (slashes_ascii cs h.1)

-- ---- and tells them

-- no octet of a component is here: nothing is, or a `/`
abbrev IsEnd : List ℕ → Type 0
IsEnd [] = Unit {0}
IsEnd (octet ∷ rest) = octet ≡ 47

head : (x y : ℕ) (a b : List ℕ) → x ∷ a ≡ y ∷ b → x ≡ y
head x y a b e = ap (λ l. get_or l 0 0) e

tail : (x y : ℕ) (a b : List ℕ) → x ∷ a ≡ y ∷ b → a ≡ b
tail x y a b e = ap (λ (l : List ℕ). drop 1 l) e

-- what is written as itself ends nothing and marks nothing
plain : (x : ℕ) → behind_mark x ≡ None → (x ≢ 47) × (x ≢ 92)
plain x e = (λ h. grind (arith, common_steps), λ h. grind (arith, common_steps))

-- what stands behind a mark is the octet
itself : (x k : ℕ) → behind_mark x ≡ Some k → x ≡ k
itself x k e = grind (arith, common_steps)

one_marked : (x y : ℕ) (p q : Option ℕ) (a b : List ℕ) → behind_mark x ≡ p → behind_mark y ≡ q → marked x p ++ a ≡ marked y q ++ b → (x ≡ y) × (a ≡ b)
one_marked x y None None a b f g e = (head _ _ _ _ e, tail _ _ _ _ e)
one_marked x y None (Some l) a b f g e = absurd ((plain x f).1 (head _ _ _ _ e))
one_marked x y (Some k) None a b f g e = absurd ((plain y g).1 (sym (head _ _ _ _ e)))
one_marked x y (Some k) (Some l) a b f g e =
    (itself x k f ∙ head k l a b (tail _ _ _ _ e) ∙ sym (itself y l g), tail k l a b (tail _ _ _ _ e))

one_octet : (x y : ℕ) (a b : List ℕ) → component_octet x ++ a ≡ component_octet y ++ b → (x ≡ y) × (a ≡ b)
one_octet x y a b e = one_marked x y (behind_mark x) (behind_mark y) a b refl refl e

marked_goes_on : (x : ℕ) (p : Option ℕ) (a : List ℕ) → behind_mark x ≡ p → IsEnd (marked x p ++ a) → ⊥
marked_goes_on x None a f e = (plain x f).0 e
marked_goes_on x (Some k) a f e = omega (arith, e)

goes_on : (x : ℕ) (a : List ℕ) → IsEnd (component_octet x ++ a) → ⊥
goes_on x a h = marked_goes_on x (behind_mark x) a refl h

one_part : (p q a b : List ℕ) → component_text p ++ a ≡ component_text q ++ b → IsEnd a → IsEnd b → (p ≡ q) × (a ≡ b)
one_part [] [] a b e g h = (refl, e)
one_part [] (y ∷ q) a b e g h = absurd (goes_on y (component_text q ++ b) (subst IsEnd (e ∙ append_assoc (component_octet y) (component_text q) b) g))
one_part (x ∷ p) [] a b e g h = absurd (goes_on x (component_text p ++ a) (subst IsEnd (sym e ∙ append_assoc (component_octet x) (component_text p) a) h))
one_part (x ∷ p) (y ∷ q) a b e g h =
    let first = one_octet x y (component_text p ++ a) (component_text q ++ b)
    (sym (append_assoc (component_octet x) (component_text p) a) ∙ e ∙ append_assoc (component_octet y) (component_text q) b) in
    let rest = one_part p q a b first.1 g h in
    (rw (first.0, rest.0) refl, rest.1)

slashes_end : (cs : List (List ℕ)) → IsEnd (after_slashes cs)
slashes_end [] = tt
slashes_end (c ∷ cs) = refl

one_list : (cs ds : List (List ℕ)) → after_slashes cs ≡ after_slashes ds → cs ≡ ds
one_list [] [] e = refl
one_list [] (d ∷ ds) e = absurd (omega (arith, ap length e))
one_list (c ∷ cs) [] e = absurd (omega (arith, ap length e))
one_list (c ∷ cs) (d ∷ ds) e =
    let parts = one_part c d (after_slashes cs) (after_slashes ds) (tail _ _ _ _ e) (slashes_end cs) (slashes_end ds) in
    ap (λ x. x ∷ cs) parts.0 ∙ ap (λ (l : List (List ℕ)). d ∷ l) (one_list cs ds parts.1)

pub one_components : (c d : List ℕ) (cs ds : List (List ℕ)) → name_text (c ∷ cs) ≡ name_text (d ∷ ds) → c ∷ cs ≡ d ∷ ds
one_components c d cs ds e =
    let parts = one_part c d (after_slashes cs) (after_slashes ds) e (slashes_end cs) (slashes_end ds) in
    ap (λ x. x ∷ cs) parts.0 ∙ ap (λ (l : List (List ℕ)). d ∷ l) (one_list cs ds parts.1)
