-- Lines of fields.
use Rattle.std.proofs.Common.{◌≡◌, ◌⊎◌, ℕ, zero, suc, ◌+◌, ◌*◌, ◌<◌, true, false, inl, inr, refl, sym, ap, subst, ◌∙◌, List, [], ◌∷◌, ◌++◌, length, length-append, arith}
use Rattle.std.proofs.lemmas.List.{append_assoc, append_cancel_left}
use Rattle.std.proofs.lemmas.Grind.{common_steps}
use Rattle.krb_show_text.specs.declared.escape.Style.TheVariants as style
use Rattle.krb_show_text.specs.Text.{indent, line, lines_of, depth_after, page_lines, value_text, escaped}
use Rattle.krb_show.specs.Tokens.{Token}
use Rattle.krb_show_row_laws.specs.Telling.{all_of, Stops, other_than, is_name_octet, is_name, is_blank}
use Rattle.krb_show_row_laws.proofs.SplitLaws.{and_left, and_right, split, all_append}
use Rattle.krb_show_row_laws.proofs.WordLaws.{name_itself, name_all, of_other}
use Rattle.krb_show_row_laws.specs.Blocks.{depth_behind, Among, same_octets, is_apart, IsAt, Precedes, Follow, Adds, Blocks, HasHead, Heads}

-- ---- one line has one depth and one name

blank_indent : (d : ℕ) → all_of is_blank (indent d) ≡ true
blank_indent zero = refl
blank_indent (suc d) = all_append is_blank (indent d) (32 ∷ 32 ∷ []) (blank_indent d) refl

length_indent : (d : ℕ) → length (indent d) ≡ 2 * d
length_indent zero = refl
length_indent (suc d) = omega (arith, length-append (indent d) (32 ∷ 32 ∷ []), length_indent d)

name_octet_no_blank : (x : ℕ) → is_name_octet x ≡ true → is_blank x ≡ false
name_octet_no_blank x h = grind (arith, common_steps)

name_stops : (n rest : List ℕ) → is_name n ≡ true → Stops is_blank (n ++ rest)
name_stops [] rest h = absurd (cc)
name_stops (x ∷ xs) rest h = name_octet_no_blank x (and_left (is_name_octet x) (all_of is_name_octet xs) h)

pub one_at : (d e : ℕ) (n m l : List ℕ) → IsAt d n l → IsAt e m l → (d ≡ e) × (n ≡ m)
one_at d e n m l p q =
    let places = split is_blank (indent d) (indent e) (n ++ p.rest) (m ++ q.rest) (blank_indent d) (blank_indent e) (name_stops n p.rest p.is_name)
    (name_stops m q.rest q.is_name)
    (sym p.whole ∙ q.whole) in
    let names = split is_name_octet n m p.rest q.rest (name_all n p.is_name) (name_all m q.is_name) p.ends q.ends places.1 in
    (omega (arith, length_indent d, length_indent e, ap length places.0), names.0)

-- ---- names

pub same_itself : (xs : List ℕ) → same_octets xs xs ≡ true
same_itself [] = refl
same_itself (x ∷ xs) = let rest = same_itself xs in grind (arith, common_steps)

pub not_among : (n : List ℕ) (names : List (List ℕ)) → is_apart n names ≡ true → Among n names → ⊥
not_among n [] h a = a
not_among n (m ∷ names) h (inl e) =
    let same : same_octets n m ≡ true = ap (same_octets n) (sym e) ∙ same_itself n in
    let apart = of_other (same_octets n m) (and_left (other_than (same_octets n m)) (is_apart n names) h) in cc
not_among n (m ∷ names) h (inr a) = not_among n names (and_right (other_than (same_octets n m)) (is_apart n names) h) a

-- a line under a name is none of what follows, where that name is none of those
pub not_following : (n : List ℕ) (names : List (List ℕ)) (d : ℕ) (l : List ℕ) → is_apart n names ≡ true → IsAt d n l → Precedes names d l → ⊥
not_following n names d l h is p = by_place p.place
  where
    same : (d ≡ p.at) × (n ≡ p.name)
    same = one_at d p.at n p.name l is p.is

    by_place : (p.at < d) ⊎ ((p.at ≡ d) × Among p.name names) → ⊥
    by_place (inl below) = omega (arith, below, same.0)
    by_place (inr here) = not_among n names h (subst (λ (m : List ℕ). Among m names) (sym same.1) here.1)

pub follow_deeper : (names : List (List ℕ)) (d : ℕ) (ls : List (List ℕ)) → Follow names d ls → Follow [] (d + 1) ls
follow_deeper names d [] h = tt
follow_deeper names d (l ∷ ls) h = record { at = h.at; name = h.name; is = h.is; place = inl (below h.place) }
  where
    below : (h.at < d) ⊎ ((h.at ≡ d) × Among h.name names) → h.at < d + 1
    below (inl p) = omega (arith, p)
    below (inr p) = omega (arith, p.0)

-- ---- pages

pub lines_append : (d : ℕ) (ts us : List Token) → page_lines d (ts ++ us) ≡ page_lines d ts ++ page_lines (depth_behind d ts) us
lines_append d [] us = refl
lines_append d (t ∷ ts) us =
    ap (λ (ls : List (List ℕ)). lines_of d t.form t ++ ls) (lines_append (depth_after d t.form) ts us)
    ∙ sym (append_assoc (lines_of d t.form t) (page_lines (depth_after d t.form) ts) (page_lines (depth_behind (depth_after d t.form) ts) us))

pub depth_append : (d : ℕ) (ts us : List Token) → depth_behind d (ts ++ us) ≡ depth_behind (depth_behind d ts) us
depth_append d [] us = refl
depth_append d (t ∷ ts) us = depth_append (depth_after d t.form) ts us

-- ---- first lines

pub line_at : (d : ℕ) (n : List ℕ) (t : Token) → is_name n ≡ true → t.label.text ≡ n → Stops is_name_octet (value_text t.form t) → IsAt d n (line d t)
line_at d n t h e s = record {
  rest = value_text t.form t;
  is_name = h;
  whole = append_assoc (indent d) (escaped style.Name t.label.text) (value_text t.form t)
      ∙ ap (λ (m : List ℕ). indent d ++ (m ++ value_text t.form t)) (ap (escaped style.Name) e ∙ name_itself n h);
  ends = s;
}

-- two lines under one name tell what stands behind it
pub one_value_text : (d : ℕ) (t u : Token) → t.label.text ≡ u.label.text → line d t ≡ line d u → value_text t.form t ≡ value_text u.form u
one_value_text d t u e f =
    append_cancel_left (indent d ++ escaped style.Name t.label.text) (value_text t.form t) (value_text u.form u)
    (f ∙ ap (λ (m : List ℕ). (indent d ++ escaped style.Name m) ++ value_text u.form u) (sym e))

pub head_block : (n : List ℕ) (V : List ℕ → Type 0) (old new : List Token) → is_name n ≡ true → HasHead n V old new → Adds (λ names. n ∷ []) old new
head_block n V old new h k = (k.token ∷ k.rest, k.added, record { level = k.level; starts = starts })
  where
    starts : (names : List (List ℕ)) (d : ℕ) (rest : List (List ℕ)) → Follow names d rest → Follow (n ∷ []) d (page_lines d (k.token ∷ k.rest) ++ rest)
    starts names d rest f =
        let is : IsAt d n (line d k.token) = line_at d n k.token h k.named k.ends in
        let first : Precedes (n ∷ []) d (line d k.token) = record { at = d; name = n; is = is; place = inr (refl, inl refl) } in
        subst (λ (ls : List (List ℕ)). Follow (n ∷ []) d (ls ++ rest)) (sym (k.lines d).1) first

pub head_blocks : (n : List ℕ) (V : List ℕ → Type 0) (shows : List Token → List Token → Type 0) → is_name n ≡ true → Heads n V shows
    → Blocks (λ names. n ∷ []) shows
head_blocks n V shows h k = record { block = λ old new s. head_block n V old new h (k.head old new s) }
