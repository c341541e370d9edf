-- First lines that are one of several kinds.
use Rattle.std.proofs.Common.{◌≡◌, ◌⊎◌, ℕ, true, inl, inr, List, [], ◌∷◌}
use Rattle.krb_show_text.specs.Text.{value_text}
use Rattle.krb_show.specs.Tokens.{Token}
use Rattle.krb_show_row_laws.specs.Telling.{is_name}
use Rattle.krb_show_row_laws.specs.Blocks.{HasHead, Heads, IsLeaf, IsList, IsStruct}
use Rattle.krb_show_row_laws.specs.Firsts.{BeginsAs, Behind, Firsts, IsFirst, Opening, of_leaf, of_list, of_struct, openings}
use Rattle.krb_show_row_laws.proofs.FirstLaws.{list_no_leaf, list_no_struct}

-- what stands behind the name is of this kind, or of that
abbrev pub IsEither : (List ℕ → Type 0) → (List ℕ → Type 0) → List ℕ → Type 0
IsEither V W s = V s ⊎ W s

-- what stands behind the name is so too
pub head_is : {V W : List ℕ → Type 0} {n : List ℕ} {old new : List Token} → (h : HasHead n V old new) → W (value_text h.token.form h.token)
    → HasHead n W old new
head_is h value = record {
  token = h.token;
  rest = h.rest;
  added = h.added;
  named = h.named;
  ends = h.ends;
  value = value;
  lines = h.lines;
  level = h.level;
}

pub head_so : {V W : List ℕ → Type 0} {n : List ℕ} {old new : List Token} → ((s : List ℕ) → V s → W s) → HasHead n V old new → HasHead n W old new
head_so w h = head_is h (w _ h.value)

pub heads_so : {V W : List ℕ → Type 0} {n : List ℕ} {shows : List Token → List Token → Type 0} → ((s : List ℕ) → V s → W s) → Heads n V shows → Heads n W shows
heads_so w h = record { head = λ old new k. head_so w (h.head old new k) }

pub list_no_other : (s : List ℕ) → IsList s → IsEither IsStruct IsLeaf s → ⊥
list_no_other s h (inl e) = list_no_struct s h e
list_no_other s h (inr e) = list_no_leaf s h e

-- ---- as first lines

first_is : {n : List ℕ} {o : Opening} {old new : List Token} → is_name n ≡ true → HasHead n (Behind o) old new
    → IsFirst (record { name = n; opening = o }) old new
first_is name h = record { named = name; head = h }

pub struct_or_leaf : {n : List ℕ} {shows : List Token → List Token → Type 0} → is_name n ≡ true → Heads n (IsEither IsStruct IsLeaf) shows
    → Firsts (openings (of_struct ∷ of_leaf ∷ []) n) shows
struct_or_leaf {n} {shows} name h = record { first = λ old new s. by_value old new (h.head old new s) ((h.head old new s).value) }
  where
    by_value : (old new : List Token) (k : HasHead n (IsEither IsStruct IsLeaf) old new) → IsEither IsStruct IsLeaf (value_text k.token.form k.token)
        → BeginsAs (openings (of_struct ∷ of_leaf ∷ []) n) old new
    by_value old new k (inl v) = inl (first_is name (head_is k v))
    by_value old new k (inr v) = inr (inl (first_is name (head_is k v)))

pub any_opening : {n : List ℕ} {shows : List Token → List Token → Type 0} → is_name n ≡ true → Heads n (IsEither IsList (IsEither IsStruct IsLeaf)) shows
    → Firsts (openings (of_list ∷ of_struct ∷ of_leaf ∷ []) n) shows
any_opening {n} {shows} name h = record { first = λ old new s. by_value old new (h.head old new s) ((h.head old new s).value) }
  where
    by_value : (old new : List Token) (k : HasHead n (IsEither IsList (IsEither IsStruct IsLeaf)) old new)
        → IsEither IsList (IsEither IsStruct IsLeaf) (value_text k.token.form k.token) → BeginsAs (openings (of_list ∷ of_struct ∷ of_leaf ∷ []) n) old new
    by_value old new k (inl v) = inl (first_is name (head_is k v))
    by_value old new k (inr (inl v)) = inr (inl (first_is name (head_is k v)))
    by_value old new k (inr (inr v)) = inr (inr (inl (first_is name (head_is k v))))
