-- Addition modulo 2 of lists, and padding with zeros.
use Rattle.std.proofs.Common.{◌≡◌, ℕ, zero, suc, ◌+◌, ◌-◌, ◌<◌, ◌≤◌, ◌≢◌, below_more, set, List, [], ◌∷◌, ◌++◌, length, replicate, get_or, bit_xor, refl, sym, ap, ◌∙◌, arith, inl, inr}
use Rattle.std.proofs.lemmas.List.{append-nil, length-append, get_or_past, ext_get_or, length-replicate, get_or-set_same, get_or-set_other}
use Rattle.std.proofs.lemmas.Nat.{xor_comm}
use lib.Bits.{xor_assoc, xor_self, xor_zero_r, xor_zero_l}
use Rattle.std.proofs.lemmas.Bool.{cases_lt}
use Rattle.krb_crypto_hash.specs.Xor.{xor_lists, padded_to}

pub length-xor_lists : (xs ys : List ℕ) → length xs ≡ length ys → length (xor_lists xs ys) ≡ length xs
length-xor_lists [] ys e = refl
length-xor_lists (x ∷ xs) [] e = absurd (omega arith)
length-xor_lists (x ∷ xs) (y ∷ ys) e = ap suc (length-xor_lists xs ys (omega arith))

pub xor_lists-comm : (xs ys : List ℕ) → xor_lists xs ys ≡ xor_lists ys xs
xor_lists-comm [] [] = refl
xor_lists-comm [] (y ∷ ys) = refl
xor_lists-comm (x ∷ xs) [] = refl
xor_lists-comm (x ∷ xs) (y ∷ ys) = rw (xor_comm x y, xor_lists-comm xs ys) refl

-- the second time undoes the first
pub xor_lists-twice : (xs ys : List ℕ) → length xs ≡ length ys → xor_lists (xor_lists xs ys) ys ≡ xs
xor_lists-twice [] ys e = refl
xor_lists-twice (x ∷ xs) [] e = absurd (omega arith)
xor_lists-twice (x ∷ xs) (y ∷ ys) e =
    let one : bit_xor (bit_xor x y) y ≡ x = xor_assoc x y y ∙ ap (λ k. bit_xor x k) (xor_self y) ∙ xor_zero_r x in
    rw (one, xor_lists-twice xs ys (omega arith)) refl

pub xor_lists-append : (xs ys us vs : List ℕ) → length xs ≡ length ys → xor_lists (xs ++ us) (ys ++ vs) ≡ xor_lists xs ys ++ xor_lists us vs
xor_lists-append [] [] us vs e = refl
xor_lists-append [] (y ∷ ys) us vs e = absurd (omega arith)
xor_lists-append (x ∷ xs) [] us vs e = absurd (omega arith)
xor_lists-append (x ∷ xs) (y ∷ ys) us vs e = ap (λ k. bit_xor x y ∷ k) (xor_lists-append xs ys us vs (omega arith))

pub xor_lists-zeros : (n : ℕ) (ys : List ℕ) → length ys ≡ n → xor_lists (replicate n 0) ys ≡ ys
xor_lists-zeros zero [] e = refl
xor_lists-zeros zero (y ∷ ys) e = absurd (omega arith)
xor_lists-zeros (suc n) [] e = absurd (omega arith)
xor_lists-zeros (suc n) (y ∷ ys) e =
    let one : bit_xor 0 y ≡ y = xor_comm 0 y ∙ xor_zero_r y in
    rw (one, xor_lists-zeros n ys (omega arith)) refl

pub get_or-xor_lists : (xs ys : List ℕ) (k : ℕ) → length xs ≡ length ys → get_or (xor_lists xs ys) k 0 ≡ bit_xor (get_or xs k 0) (get_or ys k 0)
get_or-xor_lists [] [] k e = sym (xor_zero_r 0)
get_or-xor_lists [] (y ∷ ys) k e = absurd (omega arith)
get_or-xor_lists (x ∷ xs) [] k e = absurd (omega arith)
get_or-xor_lists (x ∷ xs) (y ∷ ys) zero e = refl
get_or-xor_lists (x ∷ xs) (y ∷ ys) (suc k) e = get_or-xor_lists xs ys k (omega arith)

get_or-zeros : (n k : ℕ) → get_or {A = ℕ} (replicate n 0) k 0 ≡ 0
get_or-zeros zero k = refl
get_or-zeros (suc n) zero = refl
get_or-zeros (suc n) (suc k) = get_or-zeros n k

get_or-then_zeros : (t : List ℕ) (n k : ℕ) → get_or (t ++ replicate n 0) k 0 ≡ get_or t k 0
get_or-then_zeros [] n k = get_or-zeros n k
get_or-then_zeros (x ∷ t) n zero = refl
get_or-then_zeros (x ∷ t) n (suc k) = get_or-then_zeros t n k

-- a whole block is padded with nothing
pub padded_whole : (size : ℕ) (t : List ℕ) → length t ≡ size → padded_to size t ≡ t
padded_whole size t e = let z : size - length t ≡ 0 = omega arith in rw z (append-nil t)

-- a block written octet by octet
pub xored_end : (size : ℕ) (block part b : List ℕ) (i : ℕ) → length block ≡ size → length b ≡ size → length part ≤ size → i ≡ length part
    → ((k : ℕ) → k < i → get_or block k 0 ≡ bit_xor (get_or part k 0) (get_or b k 0)) → ((k : ℕ) → i ≤ k → get_or block k 0 ≡ get_or b k 0)
    → block ≡ xor_lists (padded_to size part) b
xored_end size block part b i lb l fits ei below above =
    let lf : length (padded_to size part) ≡ size = rw (length-append, length-replicate) (omega arith) in
    let lx : length (xor_lists (padded_to size part) b) ≡ size = length-xor_lists (padded_to size part) b (lf ∙ sym l) ∙ lf in
    ext_get_or 0 block (xor_lists (padded_to size part) b) (lb ∙ sym lx) (λ k lt.
    let at : get_or (xor_lists (padded_to size part) b) k 0 ≡ bit_xor (get_or part k 0) (get_or b k 0) =
    get_or-xor_lists (padded_to size part) b k (lf ∙ sym l) ∙ ap (λ (j : ℕ). bit_xor j (get_or b k 0)) (get_or-then_zeros part (size - length part) k) in
    elim (cases_lt k i) [
      | inl low ↦ below k low ∙ sym at
      | inr high ↦
          let past : get_or part k 0 ≡ 0 = get_or_past part k 0 (omega arith) in
          above k high ∙ sym (at ∙ ap (λ (j : ℕ). bit_xor j (get_or b k 0)) past ∙ xor_zero_l (get_or b k 0))
    ])

pub xored_more : (block part b : List ℕ) (i : ℕ) → i < length block
    → ((k : ℕ) → k < i → get_or block k 0 ≡ bit_xor (get_or part k 0) (get_or b k 0)) → ((k : ℕ) → i ≤ k → get_or block k 0 ≡ get_or b k 0)
    → ((k : ℕ) → k < i + 1 → get_or (set block i (bit_xor (get_or block i 0) (get_or part i 0))) k 0 ≡ bit_xor (get_or part k 0) (get_or b k 0))
    × ((k : ℕ) → i + 1 ≤ k → get_or (set block i (bit_xor (get_or block i 0) (get_or part i 0))) k 0 ≡ get_or b k 0)
xored_more block part b i fits below above =
    let x : ℕ = bit_xor (get_or block i 0) (get_or part i 0) in
    let now : bit_xor (get_or block i 0) (get_or part i 0) ≡ bit_xor (get_or part i 0) (get_or b i 0) =
    ap (λ (j : ℕ). bit_xor j (get_or part i 0)) (above i (omega arith)) ∙ xor_comm (get_or b i 0) (get_or part i 0) in (
      below_more _ _ (λ k lt. let ne : k ≢ i = omega arith in get_or-set_other block i k x 0 ne ∙ below k lt) (get_or-set_same block i x 0 fits ∙ now),
      λ k h. let ne : k ≢ i = omega arith in get_or-set_other block i k x 0 ne ∙ above k (omega arith),
    )
