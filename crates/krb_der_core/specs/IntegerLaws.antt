-- The shortest octets of a number are the only shortest octets that represent it.
use Rattle.std.proofs.Common.{◌≡◌, ℕ, zero, suc, ◌+◌, ◌-◌, ◌*◌, ◌<◌, ◌≤◌, List, [], ◌∷◌, ◌++◌, length, get_or, ℤ, pos, negsuc, refl, sym, ap, subst, ◌∙◌, append_assoc, arith, inl, inr, drop}
use Rattle.std.proofs.lemmas.Bool.{cases_lt, le-ltb, lt-ltb}
use Rattle.std.proofs.lemmas.List.{append-nil}
use Rattle.std.specs.Int.Digits.{digits_of, number_from_digits, number_from_digits_after, AllBelowBase}
use Rattle.std.proofs.lemmas.Int.Digits.{number_digits_of, all_below_base_digits_of}
use Rattle.krb_der_core.specs.DigitLaws.{digits_more, first_digit}
use Rattle.krb_der_core.specs.Encoding.{OneValue, IsOctets}
use Rattle.krb_der_core.specs.TlvLaws.{same_conses}
use Rattle.krb_der_core.specs.Integer.{signed_prefix, unsigned, inverted, shortest, whole_number, IsShortest}

pub octets_below : (c : List ℕ) → IsOctets c → AllBelowBase 256 c
octets_below [] h = tt
octets_below (b ∷ bs) h = (h 0, octets_below bs (λ i. h (suc i)))

after_digits : (n : ℕ) (ds : List ℕ) → 0 < n → AllBelowBase 256 ds → digits_of 256 (number_from_digits_after 256 n ds) ≡ digits_of 256 n ++ ds
after_digits n [] p h = sym (append-nil (digits_of 256 n))
after_digits n (d ∷ ds) p h = after_digits (n * 256 + d) ds (omega arith) h.1 ∙ ap (λ (l : List ℕ). l ++ ds) (digits_more 256 n d (omega arith) (omega arith) h.0) ∙ append_assoc (digits_of 256 n) (d ∷ []) ds

pub digits_number : (d : ℕ) (ds : List ℕ) → 0 < d → AllBelowBase 256 (d ∷ ds) → digits_of 256 (number_from_digits 256 (d ∷ ds)) ≡ d ∷ ds
digits_number d ds p h = after_digits (0 * 256 + d) ds (omega arith) h.1 ∙ ap (λ (l : List ℕ). l ++ ds) (digits_more 256 0 d (omega arith) (omega arith) h.0)

prefix_small : (d : ℕ) (ds : List ℕ) → d < 128 → signed_prefix (d ∷ ds) ≡ d ∷ ds
prefix_small d ds h = rw (lt-ltb d 128 h) refl

prefix_large : (d : ℕ) (ds : List ℕ) → 128 ≤ d → signed_prefix (d ∷ ds) ≡ 0 ∷ d ∷ ds
prefix_large d ds h = rw (le-ltb d 128 h) refl

plain_unsigned : (b : ℕ) (bs : List ℕ) → b < 128 → AllBelowBase 256 (b ∷ bs) → IsShortest (b ∷ bs) → unsigned (number_from_digits 256 (b ∷ bs)) ≡ b ∷ bs
unfolding unsigned
plain_unsigned zero [] lt h s = refl
plain_unsigned zero (c ∷ cs) lt h s =
    let large : 128 ≤ c = s.positive (omega arith) refl in
    ap signed_prefix (digits_number c cs (omega arith) h.1) ∙ prefix_large c cs large
plain_unsigned (suc b) bs lt h s = ap signed_prefix (digits_number (suc b) bs (omega arith) h) ∙ prefix_small (suc b) bs lt

pub inverted_below : (c : List ℕ) → AllBelowBase 256 (inverted c)
inverted_below [] = tt
inverted_below (d ∷ ds) = (omega arith, inverted_below ds)

inverted_twice : (c : List ℕ) → AllBelowBase 256 c → inverted (inverted c) ≡ c
inverted_twice [] h = refl
inverted_twice (d ∷ ds) h = same_conses (255 - (255 - d)) d (inverted (inverted ds)) ds (omega (arith, h.0)) (inverted_twice ds h.1)

inverted_shortest : (c : List ℕ) → AllBelowBase 256 c → IsShortest c → IsShortest (inverted c)
inverted_shortest [] h s = absurd (omega (arith, s.some))
inverted_shortest (b ∷ []) h s = record { some = omega arith; positive = λ l e. absurd (omega arith); negative = λ l e. absurd (omega arith) }
inverted_shortest (b ∷ c ∷ cs) h s = record {
  some = omega arith;
  positive = λ l e. let same : b ≡ 255 = omega (arith, h.0) in let k : c < 128 = s.negative (omega arith) same in omega arith;
  negative = λ l e. let same : b ≡ 0 = omega (arith, h.0) in let k : 128 ≤ c = s.positive (omega arith) same in omega arith;
}

pub number_small : (b : ℕ) (bs : List ℕ) → b < 128 → whole_number (b ∷ bs) ≡ pos (number_from_digits 256 (b ∷ bs))
number_small b bs h = rw (lt-ltb b 128 h) refl

pub number_large : (b : ℕ) (bs : List ℕ) → 128 ≤ b → whole_number (b ∷ bs) ≡ negsuc (number_from_digits 256 (inverted (b ∷ bs)))
number_large b bs h = rw (le-ltb b 128 h) refl

-- shortest octets are those of their number
pub shortest_of_number : (c : List ℕ) → AllBelowBase 256 c → IsShortest c → shortest (whole_number c) ≡ c
shortest_of_number [] h s = absurd (omega (arith, s.some))
shortest_of_number (b ∷ bs) h s =
    elim (cases_lt b 128) [
      | inl lt ↦ ap shortest (number_small b bs lt) ∙ plain_unsigned b bs lt h s
      | inr le ↦ ap shortest (number_large b bs le) ∙ ap inverted (plain_unsigned (255 - b) (inverted bs) (omega (arith, h.0)) (inverted_below (b ∷ bs)) (inverted_shortest (b ∷ bs) h s)) ∙ inverted_twice (b ∷ bs) h
    ]

-- octets of a number that is not negative
pub record Plain (n : ℕ) (c : List ℕ) : Type 0 where
  pub b : ℕ
  pub bs : List ℕ
  pub is : c ≡ b ∷ bs
  pub small : b < 128
  pub below : AllBelowBase 256 (b ∷ bs)
  pub short : IsShortest (b ∷ bs)
  pub number : number_from_digits 256 (b ∷ bs) ≡ n

short_small : (d : ℕ) (ds : List ℕ) → 0 < d → d < 128 → IsShortest (d ∷ ds)
short_small d ds p h = record { some = omega arith; positive = λ l e. absurd (omega arith); negative = λ l e. absurd (omega arith) }

prefix_plain : (ds : List ℕ) → AllBelowBase 256 ds → (0 < length ds → 0 < get_or ds 0 0) → Plain (number_from_digits 256 ds) (signed_prefix ds)
prefix_plain [] h first = record { b = 0; bs = []; is = refl; small = omega arith; below = (omega arith, tt); short = record { some = omega arith; positive = λ l e. absurd (omega arith); negative = λ l e. absurd (omega arith) }; number = refl }
prefix_plain (d ∷ ds) h first =
    let p : 0 < d = first (omega arith) in
    elim (cases_lt d 128) [
      | inl lt ↦ record { b = d; bs = ds; is = prefix_small d ds lt; small = lt; below = h; short = short_small d ds p lt; number = refl }
      | inr le ↦ record { b = 0; bs = d ∷ ds; is = prefix_large d ds le; small = omega arith; below = (omega arith, h); short = record { some = omega arith; positive = λ l e. le; negative = λ l e. absurd (omega arith) }; number = refl }
    ]

pub unsigned_plain : (n : ℕ) → Plain n (unsigned n)
unfolding unsigned
unsigned_plain n = subst (λ (m : ℕ). Plain m (signed_prefix (digits_of 256 n))) (number_digits_of 256 n (omega arith)) (prefix_plain (digits_of 256 n) (all_below_base_digits_of 256 n (omega arith)) (first_digit 256 n (omega arith)))

pub number_of_shortest : (z : ℤ) → whole_number (shortest z) ≡ z
number_of_shortest (pos n) =
    let p = unsigned_plain n in
    ap whole_number p.is ∙ number_small p.b p.bs p.small ∙ ap pos p.number
number_of_shortest (negsuc n) =
    let p = unsigned_plain n in
    ap (λ (l : List ℕ). whole_number (inverted l)) p.is ∙ number_large (255 - p.b) (inverted p.bs) (omega (arith, p.small)) ∙ ap (λ (l : List ℕ). negsuc (number_from_digits 256 l)) (inverted_twice (p.b ∷ p.bs) p.below) ∙ ap negsuc p.number

pub shortest_is : (z : ℤ) → IsShortest (shortest z)
shortest_is (pos n) = let p = unsigned_plain n in rw p.is p.short
shortest_is (negsuc n) = let p = unsigned_plain n in rw p.is (inverted_shortest (p.b ∷ p.bs) p.below p.short)

needless_zero : (b c : ℕ) (cs : List ℕ) → c < 128 → (IsShortest (b ∷ c ∷ cs) → ⊥) → whole_number (c ∷ cs) ≡ whole_number (b ∷ c ∷ cs)
needless_zero zero c cs lt none = number_small c cs lt
needless_zero (suc b) c cs lt none = absurd (none (record { some = omega arith; positive = λ l e. absurd (omega arith); negative = λ l e. lt }))

needless_ones : (b c : ℕ) (cs : List ℕ) → b ≡ 255 → 128 ≤ c → whole_number (c ∷ cs) ≡ whole_number (b ∷ c ∷ cs)
needless_ones b c cs e le = number_large c cs le ∙ sym (ap (λ (d : ℕ). whole_number (d ∷ c ∷ cs)) e)

-- a needless leading octet does not change the number
pub needless_first : (c : List ℕ) → 0 < length c → AllBelowBase 256 c → (IsShortest c → ⊥) → (1 < length c) × (whole_number (drop 1 c) ≡ whole_number c)
needless_first [] some h none = absurd (omega arith)
needless_first (b ∷ []) some h none = absurd (none (record { some = omega arith; positive = λ l e. absurd (omega arith); negative = λ l e. absurd (omega arith) }))
needless_first (b ∷ c ∷ cs) some h none =
    elim (cases_lt c 128) [
      | inl lt ↦ (omega arith, needless_zero b c cs lt none)
      | inr le ↦ (
        omega arith,
        elim (cases_lt b 255) [
          | inl other ↦ absurd (none (record { some = omega arith; positive = λ l e. le; negative = λ l e. absurd (omega arith) }))
          | inr same ↦ needless_ones b c cs (omega (arith, h.0)) le
        ],
      )
    ]

pub integer_one_content : OneValue (λ (z : ℤ). Unit {0}) shortest
integer_one_content v w hv hw e = sym (number_of_shortest v) ∙ ap whole_number e ∙ number_of_shortest w
