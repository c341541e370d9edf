-- Which octets are the length octets of a number.
use Rattle.std.proofs.Common.{◌≡◌, ℕ, zero, suc, ◌+◌, ◌-◌, ◌^◌, ◌<◌, ◌≤◌, ◌⊎◌, true, false, eqb, List, [], ◌∷◌, ◌++◌, length, get_or, take, drop, refl, sym, ap, subst, ◌∙◌, arith, inl, inr}
use Rattle.std.proofs.lemmas.Bool.{cases_lt, eqb-true}
use Rattle.std.proofs.lemmas.List.{take_at, append-nil, length-append, length-take-le, take-append-le, take-append-drop}
use Rattle.std.specs.Int.Digits.{digits_of}
use Rattle.std.proofs.lemmas.Int.Digits.{first_digits_of, length-digits_of-le}
use Rattle.krb_der_core.specs.Tlv.{len}
use Rattle.krb_der_core.specs.Reading.{TakesPrefix, NoPrefix, NoBeginning, Lengths}
use Rattle.krb_der_core.specs.TlvLaws.{same_heads, same_conses, len-small, len-large}

-- no encoding and the input are prefixes of one list
abbrev pub NoMeet : (List ℕ → Type 0) → List ℕ → Type 0
NoMeet P input = (b x y : List ℕ) → P b → input ++ x ≡ b ++ y → ⊥

pub prefix_from_meet : (P : List ℕ → Type 0) (input : List ℕ) → NoMeet P input → NoPrefix P input
prefix_from_meet P input h b rest p e = h b [] rest p (append-nil input ∙ e)

pub beginning_from_meet : (P : List ℕ → Type 0) (input : List ℕ) → NoMeet P input → NoBeginning P input
beginning_from_meet P input h b rest p e = h b rest [] p (sym e ∙ sym (append-nil b))

pub rejected_from_meet : (P : List ℕ → Type 0) (input : List ℕ) → NoMeet P input → NoPrefix P input × NoBeginning P input
rejected_from_meet P input h = (prefix_from_meet P input h, beginning_from_meet P input h)

pub positive : (n : ℕ) → eqb n 0 ≡ false → 0 < n
positive zero e = absurd cc
positive (suc n) e = omega arith

-- of two prefixes of one list, one begins with the other
pub prefixes_split : (a b x y : List ℕ) → a ++ x ≡ b ++ y → ((r : List ℕ) × (a ≡ b ++ r)) ⊎ ((r : List ℕ) × (b ≡ a ++ r))
prefixes_split [] b x y e = inr (b, refl)
prefixes_split (i ∷ a) [] x y e = inl (i ∷ a, refl)
prefixes_split (i ∷ a) (j ∷ b) x y e =
    let h = same_heads i j (a ++ x) (b ++ y) e in
    elim (prefixes_split a b x y h.1) [
      | inl r ↦ inl (r.0, same_conses i j a (b ++ r.0) h.0 r.1)
      | inr r ↦ inr (r.0, same_conses j i b (a ++ r.0) (sym h.0) r.1)
    ]

pub meet_from_both : (P : List ℕ → Type 0) (input : List ℕ) → NoPrefix P input × NoBeginning P input → NoMeet P input
meet_from_both P input h b x y p e =
    elim (prefixes_split input b x y e) [
      | inl r ↦ h.0 b r.0 p r.1
      | inr r ↦ h.1 b r.0 p r.1
    ]

-- what follows the first octet of a length from 128 on
pub record LongLength (n first : ℕ) (input x y : List ℕ) : Type 0 where
  pub large : 128 ≤ n
  pub count : first ≡ 128 + length (digits_of 256 n)
  pub least : 1 ≤ length (digits_of 256 n)
  pub most : length (digits_of 256 n) ≤ 8
  pub digits : input ++ x ≡ digits_of 256 n ++ y
  pub nonzero : 0 < get_or (digits_of 256 n) 0 0

has_first : (xs : List ℕ) → 0 < get_or xs 0 0 → 1 ≤ length xs
has_first [] h = absurd (omega arith)
has_first (x ∷ xs) h = omega arith

pub meets : (n first : ℕ) (input x y : List ℕ) → n < 2 ^ 64 → (first ∷ input) ++ x ≡ len n ++ y → ((n < 128) × (first ≡ n)) ⊎ LongLength n first input x y
meets n first input x y lt e =
    elim (cases_lt n 128) [
      | inl h ↦ (let f : first ∷ (input ++ x) ≡ n ∷ y = rw (len-small n h) at e in inl (h, (same_heads _ _ _ _ f).0))
      | inr h ↦
          (let f : first ∷ (input ++ x) ≡ (128 + length (digits_of 256 n)) ∷ (digits_of 256 n ++ y) = rw (len-large n h) at e in
          let s = same_heads _ _ _ _ f in
          let z : 0 < get_or (digits_of 256 n) 0 0 = first_digits_of 256 n (omega arith) (omega arith) in
          inr (record { large = h; count = s.0; least = has_first _ z; most = length-digits_of-le 256 8 n (omega arith) lt; digits = s.1; nonzero = z }))
    ]

len-nonempty : (n : ℕ) (rest : List ℕ) → [] ≡ len n ++ rest → ⊥
len-nonempty n rest e =
    elim (cases_lt n 128) [
      | inl h ↦ (let f : [] ≡ n ∷ rest = rw (len-small n h) at e in cc)
      | inr h ↦ (let f : [] ≡ (128 + length (digits_of 256 n)) ∷ (digits_of 256 n ++ rest) = rw (len-large n h) at e in cc)
    ]

-- an input, by its first octet
pub by_first : (Q : ℕ → List ℕ → Type 0) → ((first : ℕ) (rest : List ℕ) → Q first (first ∷ rest)) → (input : List ℕ)
    → eqb (length input) 0 ≡ false → Q (get_or input 0 0) input
by_first Q h [] e = absurd cc
by_first Q h (first ∷ rest) e = h first rest

pub nothing_read : (input : List ℕ) → eqb (length input) 0 ≡ true → NoPrefix Lengths input
nothing_read [] h b rest p e = len-nonempty p.0 rest (e ∙ ap (λ (l : List ℕ). l ++ rest) p.2)
nothing_read (i ∷ is) h b rest p e = absurd (omega (arith, eqb-true (length (i ∷ is)) 0 h))

pub small_read : (input : List ℕ) → eqb (length input) 0 ≡ false → get_or input 0 0 < 128 → TakesPrefix (len (get_or input 0 0)) 1 input
small_read [] h lt = absurd cc
small_read (i ∷ is) h lt = rw (len-small i lt) (record { count = refl; prefix = refl })

pub bad_first : (input : List ℕ) → eqb (length input) 0 ≡ false → 128 ≤ get_or input 0 0
    → (get_or input 0 0 ≡ 128) ⊎ ((get_or input 0 0 ≡ 128 → ⊥) × (136 < get_or input 0 0)) → NoMeet Lengths input
bad_first [] h ge bad b x y p e = absurd cc
bad_first (i ∷ is) h ge bad b x y p e =
    elim (meets p.0 i is x y p.1 (e ∙ ap (λ (l : List ℕ). l ++ y) p.2)) [
      | inl s ↦ omega arith
      | inr l ↦ elim bad [ inl a ↦ omega arith | inr a ↦ omega arith ]
    ]

pub short_read : (input : List ℕ) → eqb (length input) 0 ≡ false → 128 ≤ get_or input 0 0 → length input - 1 < get_or input 0 0 - 128 → NoPrefix Lengths input
short_read [] h ge short b rest p e = absurd cc
short_read (i ∷ is) h ge short b rest p e =
    elim (meets p.0 i is [] rest p.1 (append-nil (i ∷ is) ∙ e ∙ ap (λ (l : List ℕ). l ++ rest) p.2)) [
      | inl s ↦ omega arith
      | inr l ↦ omega (arith, ap length l.digits, length-append is [], length-append (digits_of 256 p.0) rest)
    ]

-- the digits, where there are as many octets
digits_at : (n first : ℕ) (is x y : List ℕ) → first - 128 ≤ length is → LongLength n first is x y → digits_of 256 n ≡ take (first - 128) is
digits_at n first is x y le l =
    let k : length (digits_of 256 n) ≡ first - 128 = omega (arith, l.count) in
    sym (take_at (digits_of 256 n) y (first - 128) k) ∙ ap (λ (t : List ℕ). take (first - 128) t) (sym l.digits) ∙ take-append-le (first - 128) is x le

first_at : (d o : List ℕ) → d ≡ o → 0 < get_or d 0 0 → get_or o 0 0 ≡ 0 → ⊥
first_at d o e h z = let f : 0 < get_or o 0 0 = subst (λ (l : List ℕ). 0 < get_or l 0 0) e h in omega arith

pub zero_first : (input : List ℕ) → eqb (length input) 0 ≡ false → 128 ≤ get_or input 0 0 → get_or input 0 0 - 128 ≤ length input - 1
    → get_or (take (get_or input 0 0 - 128) (drop 1 input)) 0 0 ≡ 0 → NoMeet Lengths input
zero_first [] h ge le z b x y p e = absurd cc
zero_first (i ∷ is) h ge le z b x y p e =
    elim (meets p.0 i is x y p.1 (e ∙ ap (λ (l : List ℕ). l ++ y) p.2)) [
      | inl s ↦ omega arith
      | inr l ↦ first_at (digits_of 256 p.0) (take (i - 128) is) (digits_at p.0 i is x y (omega arith) l) l.nonzero z
    ]

same_digits : (m n : ℕ) (o : List ℕ) → digits_of 256 m ≡ o → digits_of 256 n ≡ o → m ≡ n
same_digits m n o e f = Rattle.std.proofs.lemmas.Int.Digits.same_from_digits_of 256 m n (omega arith) (e ∙ sym f)

pub needless : (input : List ℕ) (n : ℕ) → eqb (length input) 0 ≡ false → 128 ≤ get_or input 0 0
    → get_or input 0 0 - 128 ≤ length input - 1 → digits_of 256 n ≡ take (get_or input 0 0 - 128) (drop 1 input) → n < 128 → NoMeet Lengths input
needless [] n h ge le d lt b x y p e = absurd cc
needless (i ∷ is) n h ge le d lt b x y p e =
    elim (meets p.0 i is x y p.1 (e ∙ ap (λ (l : List ℕ). l ++ y) p.2)) [
      | inl s ↦ omega arith
      | inr l ↦ omega (arith, same_digits p.0 n (take (i - 128) is) (digits_at p.0 i is x y (omega arith) l) d, l.large)
    ]

pub long_read : (input : List ℕ) (n : ℕ) → eqb (length input) 0 ≡ false → 128 ≤ get_or input 0 0
    → get_or input 0 0 - 128 ≤ length input - 1 → digits_of 256 n ≡ take (get_or input 0 0 - 128) (drop 1 input) → 128 ≤ n
    → TakesPrefix (len n) (1 + (get_or input 0 0 - 128)) input
long_read [] n h ge le d big = absurd cc
long_read (i ∷ is) n h ge le d big =
    let k : length (digits_of 256 n) ≡ i - 128 = omega (arith, ap length d, length-take-le (i - 128) is (omega arith)) in
    let head : 128 + length (digits_of 256 n) ≡ i = omega arith in
    let whole : i ∷ is ≡ (128 + length (digits_of 256 n)) ∷ (digits_of 256 n ++ drop (i - 128) is) = rw (head, d) (ap (λ (l : List ℕ). i ∷ l) (sym (take-append-drop (i - 128) is))) in
    let one : 1 + (i - 128) ≡ suc (i - 128) = omega arith in
    rw (len-large n big, one) (record { count = omega arith; prefix = whole })
