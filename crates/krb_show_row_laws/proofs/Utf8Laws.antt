-- Texts in UTF-8 are octets.
use Rattle.std.proofs.Common.{◌≡◌, ℕ, zero, suc, ◌+◌, ◌/◌, ◌<◌, Bool, true, false, ◌&&◌, cond, refl, subst, List, [], ◌∷◌, ◌++◌, inl, inr, arith}
use Rattle.std.specs.List.{AllByRecursion}
use Rattle.std.specs.Str.{IsUtf8}
use Rattle.std.proofs.lemmas.Grind.{common_steps}
use Rattle.krb_der_core.specs.Encoding.{IsOctets}
use lib.Dec.{ltb}
use lib.Utf8.{scalar, scalars, scalar_cases, encode, encodes, next}

all_octets : (xs : List ℕ) → AllByRecursion (λ x. x < 256) xs → IsOctets xs
all_octets [] h zero = omega arith
all_octets [] h (suc i) = omega arith
all_octets (x ∷ xs) h zero = h.0
all_octets (x ∷ xs) h (suc i) = all_octets xs h.1 i

abbrev AreSmall : List ℕ → Type 0
AreSmall = AllByRecursion (λ x. x < 256)

small_append : (xs ys : List ℕ) → AreSmall xs → AreSmall ys → AreSmall (xs ++ ys)
small_append [] ys h k = k
small_append (x ∷ xs) ys h k = (h.0, small_append xs ys h.1 k)

small_next : (n : ℕ) → next n < 256
small_next n = omega arith

by_length : (c : ℕ) (x y z : Bool) → ltb c 128 ≡ x → ltb c 2048 ≡ y → ltb c 65536 ≡ z → c < 1114112
    → AreSmall (cond x (c ∷ []) (cond y ((192 + c / 64) ∷ next c ∷ []) (cond z ((224 + c / 4096) ∷ next (c / 64) ∷ next c ∷ [])
    ((240 + c / 262144) ∷ next (c / 4096) ∷ next (c / 64) ∷ next c ∷ []))))
by_length c true y z e f g h = let lt : c < 128 = grind (arith, common_steps) in (omega (arith, lt), tt)
by_length c false true z e f g h = let lt : c < 2048 = grind (arith, common_steps) in (omega (arith, lt), (small_next c, tt))
by_length c false false true e f g h = let lt : c < 65536 = grind (arith, common_steps) in (omega (arith, lt), (small_next (c / 64), (small_next c, tt)))
by_length c false false false e f g h = (omega (arith, h), (small_next (c / 4096), (small_next (c / 64), (small_next c, tt))))

small_code : (c : ℕ) → scalar c ≡ true → c < 1114112
small_code c e = elim (scalar_cases c e) [ inl h ↦ omega (arith, h) | inr h ↦ h.1 ]

small_encode : (c : ℕ) → scalar c ≡ true → AreSmall (encode c)
unfolding encode
small_encode c e = by_length c (ltb c 128) (ltb c 2048) (ltb c 65536) refl refl refl (small_code c e)

first_is : (a b : Bool) → a && b ≡ true → a ≡ true
first_is true b h = refl
first_is false b h = h

second_is : (a b : Bool) → a && b ≡ true → b ≡ true
second_is true b h = h
second_is false b h = absurd (cc)

small_encodes : (cs : List ℕ) → scalars cs ≡ true → AreSmall (encodes cs)
small_encodes [] h = tt
small_encodes (c ∷ cs) h = small_append (encode c) (encodes cs) (small_encode c (first_is (scalar c) (scalars cs) h))
    (small_encodes cs (second_is (scalar c) (scalars cs) h))

pub utf8_octets : (xs : List ℕ) → IsUtf8 xs → IsOctets xs
utf8_octets xs (cs, (all, e)) = subst IsOctets e (all_octets (encodes cs) (small_encodes cs all))
