-- First lines.
use Rattle.std.proofs.Common.{◌≡◌, ◌⊎◌, ℕ, ◌<◌, Bool, true, false, ◌||◌, inl, inr, refl, sym, ap, subst, ◌∙◌, List, [], ◌∷◌, ◌++◌, length, arith}
use Rattle.krb_show_text.specs.Text.{line, page_lines}
use Rattle.krb_show.specs.Tokens.{Token}
use Rattle.krb_show_row_laws.specs.Telling.{is_name, other_than}
use Rattle.krb_show_row_laws.specs.Blocks.{Adds, Among, Blocks, Follow, Heads, IsAt, IsLeaf, IsList, IsStruct, Tells, is_apart, same_octets}
use Rattle.krb_show_row_laws.specs.Firsts.{BeginsAs, Behind, First, Firsts, IsFirst, Opening, apart_each, apart_first, apart_firsts, are_apart, names_of, of_leaf, of_list, of_struct, other_opening}
use Rattle.krb_show_row_laws.proofs.SplitLaws.{and_both, and_left, and_right, head}
use Rattle.krb_show_row_laws.proofs.BlockLaws.{head_block, line_at, not_among, not_following, one_at, one_value_text}
use Rattle.krb_show_row_laws.proofs.FieldLaws.{first_line, same_added}

-- ---- tests

pub or_true : (a b : Bool) → a || b ≡ true → (a ≡ true) ⊎ (b ≡ true)
or_true true b h = inl refl
or_true false b h = inr h

-- ---- among first lines, and among names

pub begins_left : (fs gs : List First) (old new : List Token) → BeginsAs fs old new → BeginsAs (fs ++ gs) old new
begins_left [] gs old new h = absurd h
begins_left (f ∷ fs) gs old new (inl h) = inl h
begins_left (f ∷ fs) gs old new (inr h) = inr (begins_left fs gs old new h)

pub begins_right : (fs gs : List First) (old new : List Token) → BeginsAs gs old new → BeginsAs (fs ++ gs) old new
begins_right [] gs old new h = h
begins_right (f ∷ fs) gs old new h = inr (begins_right fs gs old new h)

pub among_left : (n : List ℕ) (ms ns : List (List ℕ)) → Among n ms → Among n (ms ++ ns)
among_left n [] ns h = absurd h
among_left n (m ∷ ms) ns (inl h) = inl h
among_left n (m ∷ ms) ns (inr h) = inr (among_left n ms ns h)

pub among_right : (n : List ℕ) (ms ns : List (List ℕ)) → Among n ns → Among n (ms ++ ns)
among_right n [] ns h = h
among_right n (m ∷ ms) ns h = inr (among_right n ms ns h)

-- more names may be first
pub follow_so : (ms ns : List (List ℕ)) → ((n : List ℕ) → Among n ms → Among n ns) → (d : ℕ) (ls : List (List ℕ)) → Follow ms d ls → Follow ns d ls
follow_so ms ns f d [] h = tt
follow_so ms ns f d (l ∷ ls) h = record { at = h.at; name = h.name; is = h.is; place = place h.place }
  where
    place : (h.at < d) ⊎ ((h.at ≡ d) × Among h.name ms) → (h.at < d) ⊎ ((h.at ≡ d) × Among h.name ns)
    place (inl p) = inl p
    place (inr p) = inr (p.0, f h.name p.1)

pub only_first : (n : List ℕ) (ms : List (List ℕ)) (m : List ℕ) → Among m (n ∷ []) → Among m (n ∷ ms)
only_first n ms m (inl e) = inl e
only_first n ms m (inr e) = absurd e

-- ---- what begins so is a block

pub first_added : (fs : List First) (old new : List Token) → BeginsAs fs old new → Adds (λ names. names_of fs) old new
first_added [] old new h = absurd h
first_added (f ∷ fs) old new (inl h) =
    let b = head_block f.name (Behind f.opening) old new h.named h.head in (
      b.0,
      b.1,
      record {
        level = b.2.level;
        starts = λ names d rest m. follow_so (f.name ∷ []) (f.name ∷ names_of fs) (only_first f.name (names_of fs)) d (page_lines d b.0 ++ rest)
            (b.2.starts names d rest m);
      },
    )
first_added (f ∷ fs) old new (inr h) =
    let b = first_added fs old new h in (
      b.0,
      b.1,
      record {
        level = b.2.level;
        starts = λ names d rest m. follow_so (names_of fs) (f.name ∷ names_of fs) (λ n a. inr a) d (page_lines d b.0 ++ rest) (b.2.starts names d rest m);
      },
    )

pub firsts_block : {fs : List First} {shows : List Token → List Token → Type 0} → Firsts fs shows → Blocks (λ names. names_of fs) shows
firsts_block {fs} h = record { block = λ old new s. first_added fs old new (h.first old new s) }

-- one first line
pub one_first : {n : List ℕ} {o : Opening} {shows : List Token → List Token → Type 0} → is_name n ≡ true → Heads n (Behind o) shows
    → Firsts (record { name = n; opening = o } ∷ []) shows
one_first name h = record { first = λ old new s. inl (record { named = name; head = h.head old new s }) }

pub firsts_so : {fs : List First} {a b : List Token → List Token → Type 0} → ((old new : List Token) → b old new → a old new) → Firsts fs a → Firsts fs b
firsts_so f h = record { first = λ old new s. h.first old new (f old new s) }

-- ---- first lines that differ

-- no lines of the one are lines of the other
pub record Never (a b : List Token → List Token → Type 0) : Type 0 where
  pub never : (old before ts us : List Token) → a old (old ++ ts) → b before (before ++ us) → (names : List (List ℕ)) (d : ℕ) (rest following : List (List ℕ))
      → Follow names d rest → Follow names d following → page_lines d ts ++ rest ≡ page_lines d us ++ following → ⊥

pub never_swapped : {a b : List Token → List Token → Type 0} → Never a b → Never b a
never_swapped n = record { never = λ old before ts us h k names d rest following p q e. n.never before old us ts k h names d following rest q p (sym e) }

pub never_so : {a b c e : List Token → List Token → Type 0} → ((old new : List Token) → c old new → a old new)
    → ((old new : List Token) → e old new → b old new) → Never a b → Never c e
never_so f g n = record { never = λ old before ts us h k. n.never old before ts us (f old (old ++ ts) h) (g before (before ++ us) k) }

pub struct_no_leaf : (s : List ℕ) → IsStruct s → IsLeaf s → ⊥
struct_no_leaf s e (rest, f) = omega (arith, ap length e, ap length f)

pub list_no_leaf : (s : List ℕ) → IsList s → IsLeaf s → ⊥
list_no_leaf s (more, e) (rest, f) = omega (arith, head _ _ _ _ (sym e ∙ f))

pub list_no_struct : (s : List ℕ) → IsList s → IsStruct s → ⊥
list_no_struct s (more, e) f = omega (arith, head _ _ _ _ (sym e ∙ f))

no_test : false ≡ true → ⊥
no_test e = cc

opening_apart : (o p : Opening) (s : List ℕ) → other_opening o p ≡ true → Behind o s → Behind p s → ⊥
opening_apart of_struct of_struct s e h k = no_test e
opening_apart of_struct of_list s e h k = list_no_struct s k h
opening_apart of_struct of_leaf s e h k = struct_no_leaf s h k
opening_apart of_list of_struct s e h k = list_no_struct s h k
opening_apart of_list of_list s e h k = no_test e
opening_apart of_list of_leaf s e h k = list_no_leaf s h k
opening_apart of_leaf of_struct s e h k = struct_no_leaf s k h
opening_apart of_leaf of_list s e h k = list_no_leaf s k h
opening_apart of_leaf of_leaf s e h k = no_test e

first_never : (f g : First) (old before ts us : List Token) → IsFirst f old (old ++ ts) → IsFirst g before (before ++ us) → apart_first f g ≡ true
    → (d : ℕ) (rest following : List (List ℕ)) → page_lines d ts ++ rest ≡ page_lines d us ++ following → ⊥
first_never f g old before ts us h k apart d rest following same =
    let t = h.head in
    let u = k.head in
    let left = ap (page_lines d) (same_added old ts (t.token ∷ t.rest) t.added) ∙ (t.lines d).1 in
    let right = ap (page_lines d) (same_added before us (u.token ∷ u.rest) u.added) ∙ (u.lines d).1 in
    let lines : line d t.token ∷ ((t.lines d).0 ++ rest) ≡ line d u.token ∷ ((u.lines d).0 ++ following) =
    ap (λ (ls : List (List ℕ)). ls ++ rest) (sym left) ∙ same ∙ ap (λ (ls : List (List ℕ)). ls ++ following) right in
    let one = first_line _ _ _ _ lines in
    let names = one_at d d f.name g.name (line d u.token) (subst (IsAt d f.name) one (line_at d f.name t.token h.named t.named t.ends))
    (line_at d g.name u.token k.named u.named u.ends) in
    let texts = one_value_text d t.token u.token (t.named ∙ names.1 ∙ sym u.named) one in
    by_test _ names.1 (subst (Behind f.opening) texts t.value) u.value (or_true (other_opening f.opening g.opening) (other_than (same_octets f.name g.name))
    apart)
  where
    by_test : (s : List ℕ) → f.name ≡ g.name → Behind f.opening s → Behind g.opening s → (other_opening f.opening g.opening ≡ true)
        ⊎ (other_than (same_octets f.name g.name) ≡ true) → ⊥
    by_test s e p q (inl o) = opening_apart f.opening g.opening s o p q
    by_test s e p q (inr o) = not_among f.name (g.name ∷ []) (and_both (other_than (same_octets f.name g.name)) true o refl) (inl e)

each_never : (f : First) (gs : List First) (old before ts us : List Token) → IsFirst f old (old ++ ts) → BeginsAs gs before (before ++ us)
    → apart_each f gs ≡ true
    → (d : ℕ) (rest following : List (List ℕ)) → page_lines d ts ++ rest ≡ page_lines d us ++ following → ⊥
each_never f [] old before ts us h k apart d rest following same = k
each_never f (g ∷ gs) old before ts us h (inl k) apart d rest following same =
    first_never f g old before ts us h k (and_left (apart_first f g) (apart_each f gs) apart) d rest following same
each_never f (g ∷ gs) old before ts us h (inr k) apart d rest following same =
    each_never f gs old before ts us h k (and_right (apart_first f g) (apart_each f gs) apart) d rest following same

all_never : (fs gs : List First) (old before ts us : List Token) → BeginsAs fs old (old ++ ts) → BeginsAs gs before (before ++ us) → apart_firsts fs gs ≡ true
    → (d : ℕ) (rest following : List (List ℕ)) → page_lines d ts ++ rest ≡ page_lines d us ++ following → ⊥
all_never [] gs old before ts us h k apart d rest following same = h
all_never (f ∷ fs) gs old before ts us (inl h) k apart d rest following same =
    each_never f gs old before ts us h k (and_left (apart_each f gs) (apart_firsts fs gs) apart) d rest following same
all_never (f ∷ fs) gs old before ts us (inr h) k apart d rest following same =
    all_never fs gs old before ts us h k (and_right (apart_each f gs) (apart_firsts fs gs) apart) d rest following same

pub firsts_never : {fs gs : List First} {a b : List Token → List Token → Type 0} → apart_firsts fs gs ≡ true → Firsts fs a → Firsts gs b → Never a b
firsts_never {fs} {gs} apart h k = record {
  never = λ old before ts us p q names d rest following m n same.
      all_never fs gs old before ts us (h.first old (old ++ ts) p) (k.first before (before ++ us) q) apart d rest following same;
}

-- ---- nothing on the one side: the first line of the other is not among what follows

none_first : (fs : List First) (old us : List Token) → BeginsAs fs old (old ++ us) → (names : List (List ℕ)) (d : ℕ) (rest following : List (List ℕ))
    → are_apart (names_of fs) names ≡ true → Follow names d rest → rest ≡ page_lines d us ++ following → ⊥
none_first [] old us h names d rest following apart m same = h
none_first (f ∷ fs) old us (inl h) names d rest following apart m same =
    let u = h.head in
    let right = ap (page_lines d) (same_added old us (u.token ∷ u.rest) u.added) ∙ (u.lines d).1 in
    let lines : rest ≡ line d u.token ∷ ((u.lines d).0 ++ following) = same ∙ ap (λ (ls : List (List ℕ)). ls ++ following) right in
    not_following f.name names d (line d u.token) (and_left (is_apart f.name names) (are_apart (names_of fs) names) apart)
    (line_at d f.name u.token h.named u.named u.ends) (subst (Follow names d) lines m)
none_first (f ∷ fs) old us (inr h) names d rest following apart m same =
    none_first fs old us h names d rest following (and_right (is_apart f.name names) (are_apart (names_of fs) names) apart) m same

pub absent_never : {fs : List First} {a : List Token → List Token → Type 0} → Firsts fs a → (old us : List Token) → a old (old ++ us)
    → (names : List (List ℕ)) (d : ℕ)
    (rest following : List (List ℕ)) → are_apart (names_of fs) names ≡ true → Follow names d rest → rest ≡ page_lines d us ++ following → ⊥
absent_never {fs} h old us s names d rest following apart m same = none_first fs old us (h.first old (old ++ us) s) names d rest following apart m same

pub apart_none : (ns : List (List ℕ)) → are_apart ns [] ≡ true
apart_none [] = refl
apart_none (n ∷ ns) = apart_none ns

-- ---- the same lines by other ways

pub tells_via : {f : List (List ℕ) → List (List ℕ)} {fit : List (List ℕ) → Bool} {H P : Type 0} {a b c e : List Token → List Token → Type 0}
    → ((old new : List Token) → c old new → a old new) → ((old new : List Token) → e old new → b old new) → Tells f fit H P a b → Tells f fit H P c e
tells_via p q t = record {
  left = record { block = λ old new h. t.left.block old new (p old new h) };
  right = record { block = λ old new h. t.right.block old new (q old new h) };
  tells = λ old before ts us h k. t.tells old before ts us (p old (old ++ ts) h) (q before (before ++ us) k);
}

-- lines that begin otherwise too
pub tells_from : {f g : List (List ℕ) → List (List ℕ)} {fit : List (List ℕ) → Bool} {H P : Type 0} {a b : List Token → List Token → Type 0}
    → Blocks g a → Blocks g b → Tells f fit H P a b → Tells g fit H P a b
tells_from p q t = record { left = p; right = q; tells = t.tells }

-- where what is known rules the one or the other out
pub never_tells : {fs : List First} {H P : Type 0} {a b : List Token → List Token → Type 0} → Firsts fs a → Firsts fs b → (H → Never a b)
    → Tells (λ names. names_of fs) (λ names. true) H P a b
never_tells h k n = record {
  left = firsts_block h;
  right = firsts_block k;
  tells = λ old before ts us p q known names d rest following fit m o same. absurd ((n known).never old before ts us p q names d rest following m o same);
}
