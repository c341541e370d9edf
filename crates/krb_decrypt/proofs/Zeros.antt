-- Payloads with zeros behind them.
use Rattle.std.proofs.Common.{◌≡◌, ℕ, zero, suc, ◌+◌, ◌≤◌, refl, sym, ap, ◌∙◌, subst, List, [], ◌∷◌, ◌++◌, length, length-append, arith}
use Rattle.std.specs.Prelude.{replicate}
use Rattle.std.proofs.lemmas.List.{append-nil, append_assoc}
use Rattle.krb_decrypt.specs.Keys.{HasZeros}

snoc_front : {A : Type 0} (xs ys : List A) (x y : A) → xs ++ x ∷ [] ≡ ys ++ y ∷ [] → xs ≡ ys
snoc_front [] [] x y e = refl
snoc_front [] (q ∷ qs) x y e = absurd (omega (arith, ap length e, length-append qs (y ∷ [])))
snoc_front (p ∷ ps) [] x y e = absurd (omega (arith, ap length e, length-append ps (x ∷ [])))
snoc_front (p ∷ ps) (q ∷ qs) x y e =
    let rest : ps ++ x ∷ [] ≡ qs ++ y ∷ [] = cc in
    cc (snoc_front ps qs x y rest)

snoc_last : {A : Type 0} (xs ys : List A) (x y : A) → xs ++ x ∷ [] ≡ ys ++ y ∷ [] → x ≡ y
snoc_last [] [] x y e = cc
snoc_last [] (q ∷ qs) x y e = absurd (omega (arith, ap length e, length-append qs (y ∷ [])))
snoc_last (p ∷ ps) [] x y e = absurd (omega (arith, ap length e, length-append ps (x ∷ [])))
snoc_last (p ∷ ps) (q ∷ qs) x y e =
    let rest : ps ++ x ∷ [] ≡ qs ++ y ∷ [] = cc in
    snoc_last ps qs x y rest

-- one zero more, at the end
zeros_more : (n : ℕ) → replicate {A = ℕ} (suc n) 0 ≡ replicate {A = ℕ} n 0 ++ 0 ∷ []
zeros_more zero = refl
zeros_more (suc n) = ap (λ (l : List ℕ). 0 ∷ l) (zeros_more n)

longer : (n : ℕ) (payload : List ℕ) → payload ++ replicate {A = ℕ} (suc n) 0 ≡ (payload ++ replicate {A = ℕ} n 0) ++ 0 ∷ []
longer n payload = ap (λ (l : List ℕ). payload ++ l) (zeros_more n) ∙ sym (append_assoc payload (replicate {A = ℕ} n 0) (0 ∷ []))

-- what holds of each payload that with at most so many zeros is these octets
abbrev pub Each : (List ℕ → Type 0) → ℕ → List ℕ → Type 0
Each P most octets = (payload : List ℕ) → HasZeros most payload octets → P payload

pub no_zeros : (most : ℕ) (octets : List ℕ) → HasZeros most octets octets
no_zeros most octets = record { zeros = 0; few = omega arith; concatenated = sym (append-nil octets) }

none_by : (P : List ℕ → Type 0) (octets payload : List ℕ) (n : ℕ) → n ≡ 0 → octets ≡ payload ++ replicate {A = ℕ} n 0 → P octets → P payload
none_by P octets payload zero z e p = subst P (e ∙ append-nil payload) p
none_by P octets payload (suc n) z e p = absurd (omega (arith, z))

-- no octets have no zeros
empty_by : (payload : List ℕ) (n : ℕ) → [] ≡ payload ++ replicate {A = ℕ} n 0 → n ≡ 0
empty_by [] zero e = refl
empty_by [] (suc n) e = absurd (cc)
empty_by (x ∷ xs) n e = absurd (cc)

pub each_of_none : (P : List ℕ → Type 0) (most : ℕ) (octets : List ℕ) → octets ≡ [] → P octets → Each P most octets
each_of_none P most octets none p payload has = none_by P octets payload has.zeros (empty_by payload has.zeros (sym none ∙ has.concatenated)) has.concatenated p

pub each_of_no_more : (P : List ℕ → Type 0) (most : ℕ) (octets : List ℕ) → most ≡ 0 → P octets → Each P most octets
each_of_no_more P most octets none p payload has = let few = has.few in none_by P octets payload has.zeros (omega (arith, few, none)) has.concatenated p

last_by : (front payload : List ℕ) (last n : ℕ) → (last ≡ 0 → ⊥) → front ++ last ∷ [] ≡ payload ++ replicate {A = ℕ} n 0 → n ≡ 0
last_by front payload last zero other e = refl
last_by front payload last (suc n) other e = absurd (other (snoc_last front (payload ++ replicate {A = ℕ} n 0) last 0 (e ∙ longer n payload)))

pub each_of_other : (P : List ℕ → Type 0) (most : ℕ) (octets front : List ℕ) (last : ℕ) → octets ≡ front ++ last ∷ [] → (last ≡ 0 → ⊥) → P octets → Each P most octets
each_of_other P most octets front last whole other p payload has =
    none_by P octets payload has.zeros (last_by front payload last has.zeros other (sym whole ∙ has.concatenated)) has.concatenated p

more_by : (P : List ℕ → Type 0) (most : ℕ) (octets front payload : List ℕ) (n : ℕ) → octets ≡ front ++ 0 ∷ [] → P octets → Each P most front
    → n ≤ most + 1 → octets ≡ payload ++ replicate {A = ℕ} n 0 → P payload
more_by P most octets front payload zero whole p each few e = subst P (e ∙ append-nil payload) p
more_by P most octets front payload (suc n) whole p each few e =
    each payload (record { zeros = n; few = omega (arith, few); concatenated = snoc_front front (payload ++ replicate {A = ℕ} n 0) 0 0 (sym whole ∙ e ∙ longer n payload) })

pub each_of_more : (P : List ℕ → Type 0) (most : ℕ) (octets front : List ℕ) → octets ≡ front ++ 0 ∷ [] → P octets → Each P most front → Each P (most + 1) octets
each_of_more P most octets front whole p each payload has = more_by P most octets front payload has.zeros whole p each has.few has.concatenated

pub one_zero_more : (most : ℕ) (payload octets front : List ℕ) → octets ≡ front ++ 0 ∷ [] → HasZeros most payload front → HasZeros (most + 1) payload octets
one_zero_more most payload octets front whole has =
    let few = has.few in
    record {
      zeros = suc has.zeros;
      few = omega (arith, few);
      concatenated = whole ∙ ap (λ (l : List ℕ). l ++ 0 ∷ []) has.concatenated ∙ sym (longer has.zeros payload);
    }
