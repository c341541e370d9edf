-- The bits of the octets that flags are.
use Rattle.std.proofs.Common.{◌≡◌, ℕ, zero, suc, ◌+◌, ◌-◌, ◌*◌, ◌/◌, ◌%◌, ◌^◌, ◌<◌, ◌≤◌, Bool, true, false, List, [], ◌∷◌, ◌⊎◌, inl, inr, refl, sym, subst, ap, ◌∙◌, arith}
use Rattle.std.specs.Prelude.{◌↔◌, IsTrue, All, Contains, ◌==◌, ◌&&◌, nat_lt, slice_index, if◌then◌else◌}
use Rattle.std.specs.List.{list_any}
use Rattle.std.proofs.lemmas.Bool.{cases_lt, le-ltb}
use Rattle.std.proofs.lemmas.Bool.Decides.{nat_tests}
use Rattle.std.proofs.lemmas.List.Elements.{All-contains}
use Rattle.std.proofs.lemmas.List.Folds.{list_any-from_Any}
use Rattle.std.proofs.lemmas.Map.Views.{Contains-from_any}
use Rattle.krb_der_core.specs.BitString.{Bits}
use Rattle.krb_types.specs.Flags.{is_set}
use Rattle.krb_build.specs.Flags.{AreFlags, has, octet}

abbrev pick : ℕ → ℕ → ℕ → ℕ → ℕ → ℕ → ℕ → ℕ → ℕ → ℕ
pick a b c d e f g h zero = a
pick a b c d e f g h (suc zero) = b
pick a b c d e f g h (suc (suc zero)) = c
pick a b c d e f g h (suc (suc (suc zero))) = d
pick a b c d e f g h (suc (suc (suc (suc zero)))) = e
pick a b c d e f g h (suc (suc (suc (suc (suc zero))))) = f
pick a b c d e f g h (suc (suc (suc (suc (suc (suc zero)))))) = g
pick a b c d e f g h (suc (suc (suc (suc (suc (suc (suc n))))))) = h

-- of eight bits, each is where it was put
eighth : (a b c d e f g h : ℕ) → a ≤ 1 → b ≤ 1 → c ≤ 1 → d ≤ 1 → e ≤ 1 → f ≤ 1 → g ≤ 1 → h ≤ 1 → (j : ℕ) → j < 8
    → (128 * a + 64 * b + 32 * c + 16 * d + 8 * e + 4 * f + 2 * g + h) / 2 ^ (7 - j) % 2 ≡ pick a b c d e f g h j
eighth a b c d e f g h ha hb hc hd he hf hg hh zero lt = omega arith
eighth a b c d e f g h ha hb hc hd he hf hg hh (suc zero) lt = omega arith
eighth a b c d e f g h ha hb hc hd he hf hg hh (suc (suc zero)) lt = omega arith
eighth a b c d e f g h ha hb hc hd he hf hg hh (suc (suc (suc zero))) lt = omega arith
eighth a b c d e f g h ha hb hc hd he hf hg hh (suc (suc (suc (suc zero)))) lt = omega arith
eighth a b c d e f g h ha hb hc hd he hf hg hh (suc (suc (suc (suc (suc zero))))) lt = omega arith
eighth a b c d e f g h ha hb hc hd he hf hg hh (suc (suc (suc (suc (suc (suc zero)))))) lt = omega arith
eighth a b c d e f g h ha hb hc hd he hf hg hh (suc (suc (suc (suc (suc (suc (suc zero))))))) lt = omega arith
eighth a b c d e f g h ha hb hc hd he hf hg hh (suc (suc (suc (suc (suc (suc (suc (suc n)))))))) lt = absurd (omega (arith, lt))

small : (b : Bool) → (if b then 1 else 0) ≤ 1
small true = omega arith
small false = omega arith

is_one : (b : Bool) → ((if b then 1 else 0) == 1) ≡ b
is_one true = refl
is_one false = refl

has_small : (numbers : List ℕ) (n : ℕ) → has numbers n ≤ 1
has_small numbers n = small (list_any (λ m. m == n) numbers)

picked : (numbers : List ℕ) (first j : ℕ) → j < 8
    → pick (has numbers first) (has numbers (first + 1)) (has numbers (first + 2)) (has numbers (first + 3)) (has numbers (first + 4)) (has numbers (first + 5))
    (has numbers (first + 6)) (has numbers (first + 7)) j ≡ has numbers (first + j)
picked numbers first zero lt = let same : first ≡ first + 0 = omega arith in ap (has numbers) same
picked numbers first (suc zero) lt = refl
picked numbers first (suc (suc zero)) lt = refl
picked numbers first (suc (suc (suc zero))) lt = refl
picked numbers first (suc (suc (suc (suc zero)))) lt = refl
picked numbers first (suc (suc (suc (suc (suc zero))))) lt = refl
picked numbers first (suc (suc (suc (suc (suc (suc zero)))))) lt = refl
picked numbers first (suc (suc (suc (suc (suc (suc (suc zero))))))) lt = refl
picked numbers first (suc (suc (suc (suc (suc (suc (suc (suc n)))))))) lt = absurd (omega (arith, lt))

bit_at : (numbers : List ℕ) (first j : ℕ) → j < 8 → octet numbers first / 2 ^ (7 - j) % 2 ≡ has numbers (first + j)
unfolding octet
bit_at numbers first j lt =
    eighth _ _ _ _ _ _ _ _ (has_small numbers first) (has_small numbers (first + 1)) (has_small numbers (first + 2)) (has_small numbers (first + 3))
    (has_small numbers (first + 4)) (has_small numbers (first + 5)) (has_small numbers (first + 6)) (has_small numbers (first + 7)) j lt
    ∙ picked numbers first j lt

abbrev octets : List ℕ → List ℕ
octets numbers = octet numbers 0 ∷ octet numbers 8 ∷ octet numbers 16 ∷ octet numbers 24 ∷ []

one_at : (numbers : List ℕ) (first j : ℕ) → j < 8 → (octet numbers first / 2 ^ (7 - j) % 2 == 1) ≡ list_any (λ m. m == first + j) numbers
one_at numbers first j lt = ap (λ (b : ℕ). b == 1) (bit_at numbers first j lt) ∙ is_one (list_any (λ m. m == first + j) numbers)

at_place : (numbers : List ℕ) (k j : ℕ) → k < 4 → j < 8
    → (nat_lt k 4 && (slice_index (octets numbers) k / 2 ^ (7 - j) % 2 == 1)) ≡ list_any (λ m. m == 8 * k + j) numbers
at_place numbers zero j hk hj = one_at numbers 0 j hj
at_place numbers (suc zero) j hk hj = one_at numbers 8 j hj
at_place numbers (suc (suc zero)) j hk hj = one_at numbers 16 j hj
at_place numbers (suc (suc (suc zero))) j hk hj = one_at numbers 24 j hj
at_place numbers (suc (suc (suc (suc k)))) j hk hj = absurd (omega (arith, hk))

-- a flag is set where its number is in the list
pub set_exactly : (numbers : List ℕ) (n : ℕ) → n < 32 → is_set (octets numbers) n ≡ list_any (λ m. m == n) numbers
set_exactly numbers n lt =
    at_place numbers (n / 8) (n % 8) (omega arith) (omega arith)
    ∙ (let same : 8 * (n / 8) + n % 8 ≡ n = omega arith in ap (λ (q : ℕ). list_any (λ m. m == q) numbers) same)

same_number : (x y : ℕ) → (y == x) ≡ true → x ≡ y
same_number x y e = grind (arith, nat_tests)

contained : (numbers : List ℕ) (n : ℕ) → list_any (λ m. m == n) numbers ≡ true → Contains numbers n
contained numbers n e = Contains-from_any {eq = λ x y. y == x} same_number n numbers e

same_itself : (n : ℕ) → (n == n) ≡ true
same_itself n = grind (arith, nat_tests)

found : (numbers : List ℕ) (n : ℕ) → Contains numbers n → list_any (λ m. m == n) numbers ≡ true
found numbers n h = list_any-from_Any (λ m. m == n) numbers (h.0, n, h.1, h.2, same_itself n)

by_set : (numbers : List ℕ) (n : ℕ) → (n < 32) ⊎ (32 ≤ n) → is_set (octets numbers) n ≡ true → list_any (λ m. m == n) numbers ≡ true
by_set numbers n (inl lt) set = sym (set_exactly numbers n lt) ∙ set
by_set numbers n (inr ge) set = let never : is_set (octets numbers) n ≡ false = rw (le-ltb (n / 8) 4 (omega arith)) refl in absurd (cc)

-- the octets are the flags of numbers each of which is below 32
pub octets_are_flags : (numbers : List ℕ) → All (λ n. n < 32) numbers → (n : ℕ) → IsTrue (is_set (octets numbers) n) ↔ Contains numbers n
octets_are_flags numbers all n = (
  λ set. contained numbers n (by_set numbers n (cases_lt n 32) set),
  λ in_list. set_exactly numbers n (All-contains (λ q. q < 32) numbers n all in_list) ∙ found numbers n in_list,
)

pub flags_of_octets : (numbers : List ℕ) (bits : Bits) → bits ≡ record { octets = octets numbers; spare = 0 } → All (λ n. n < 32) numbers → AreFlags numbers bits
flags_of_octets numbers bits e all = subst (AreFlags numbers) (sym e) (record { size = refl; whole = refl; exact = octets_are_flags numbers all })
