-- Lists of numbers below a bound, as octets and bits are.
use Rattle.std.proofs.Common.{ℕ, zero, suc, ◌+◌, ◌^◌, ◌<◌, List, [], ◌∷◌, ◌++◌, take, drop, replicate, slice_index, arith}
use Rattle.std.proofs.lemmas.List.{get_or-drop}
use Rattle.std.proofs.lemmas.Nat.{xor_lt}
use Rattle.krb_crypto_hash.specs.Xor.{xor_lists}

abbrev pub AreBelow : ℕ → List ℕ → Type 0
AreBelow n xs = (i : ℕ) → slice_index xs i < n

pub AreBelow-one : {n : ℕ} (x : ℕ) → x < n → AreBelow n (x ∷ [])
AreBelow-one x h zero = h
AreBelow-one x h (suc i) = omega (arith, h)

pub AreBelow-take : {n : ℕ} (k : ℕ) (xs : List ℕ) → AreBelow n xs → AreBelow n (take k xs)
AreBelow-take zero xs h i = omega (arith, h 0)
AreBelow-take (suc k) [] h i = h 0
AreBelow-take (suc k) (x ∷ xs) h zero = h 0
AreBelow-take (suc k) (x ∷ xs) h (suc i) = AreBelow-take k xs (λ j. h (suc j)) i

pub AreBelow-drop : {n : ℕ} (k : ℕ) (xs : List ℕ) → AreBelow n xs → AreBelow n (drop k xs)
AreBelow-drop k xs h i = rw (get_or-drop k xs i 0) (h (k + i))

pub AreBelow-append : {n : ℕ} (xs ys : List ℕ) → AreBelow n xs → AreBelow n ys → AreBelow n (xs ++ ys)
AreBelow-append [] ys h g i = g i
AreBelow-append (x ∷ xs) ys h g zero = h 0
AreBelow-append (x ∷ xs) ys h g (suc i) = AreBelow-append xs ys (λ j. h (suc j)) g i

pub AreBelow-zeros : {n : ℕ} (k : ℕ) → 0 < n → AreBelow n (replicate k 0)
AreBelow-zeros zero h i = h
AreBelow-zeros (suc k) h zero = h
AreBelow-zeros (suc k) h (suc i) = AreBelow-zeros k h i

pub AreBelow-xor_lists : (w : ℕ) (xs ys : List ℕ) → AreBelow (2 ^ w) xs → AreBelow (2 ^ w) ys → AreBelow (2 ^ w) (xor_lists xs ys)
AreBelow-xor_lists w [] ys h g i = h 0
AreBelow-xor_lists w (x ∷ xs) [] h g i = g 0
AreBelow-xor_lists w (x ∷ xs) (y ∷ ys) h g zero = xor_lt w x y (h 0) (g 0)
AreBelow-xor_lists w (x ∷ xs) (y ∷ ys) h g (suc i) = AreBelow-xor_lists w xs ys (λ j. h (suc j)) (λ j. g (suc j)) i
