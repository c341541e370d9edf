-- The steps of the code that makes a key of a seed.
use Rattle.std.proofs.Common.{◌≡◌, ℕ, ◌+◌, ◌*◌, ◌/◌, ◌%◌, ◌<◌, ◌≤◌, ◌==◌, ◌&&◌, Bool, true, false, List, [], ◌∷◌, ◌++◌, length, take, drop, get_or, bit_and, bit_or, slice_index, refl, sym, ap, subst, ◌∙◌, arith, inl, inr, append_assoc}
use lib.Count.{ones, ones_in}
use Rattle.std.specs.Int.{bit_at}
use Rattle.std.specs.List.{Contains}
use Rattle.std.specs.Str.{bytes_eq}
use Rattle.std.specs.Cmp.Lexicographic.{bytes_decides}
use Rattle.std.proofs.lemmas.Bool.{and_parts, or_cases, eqb-true, false≢true, cases_Bool, false_from_ne_true, both_ways, and_left, and_right}
use Rattle.std.proofs.lemmas.Grind.{or_before_shift}
use Rattle.std.proofs.lemmas.List.{get_or_default, length-set, length-append, length-drop, take_at, drop_at, drop_all, append-nil}
use borrow.Rule.Slice.PartMut.{put_mid}
use Rattle.std.proofs.lemmas.List.Folds.{Any-from_list_any, list_any_at}
use Rattle.std.proofs.lemmas.Nat.{and_mask}
use Rattle.std.proofs.Math.Nat.{div-one}
use Rattle.krb_crypto_block.proofs.Tables.{same_below, same_below_at, all_below, all_below_at}
use Rattle.krb_crypto_block.specs.Des.{number_of_bits}
use Rattle.krb_crypto_message.specs.RandomToKey.{with_parity, upper_bits, is_weak_pair, weak_keys, is_weak, stretched, repaired, key_part, random_to_key}

-- ---- parity

-- what the code makes of an octet
abbrev odd : ℕ → ℕ
odd x = bit_or (bit_and x 254) ((ones (bit_and x 254) + 1) % 2)

odd_table : same_below odd (λ x. with_parity (upper_bits x)) 256 ≡ true
unfolding ones ones_in number_of_bits with_parity
odd_table = refl

pub odd_octet : (x : ℕ) → x < 256 → bit_or (bit_and x 254) ((ones (bit_and x 254) + 1) % 2) ≡ with_parity (upper_bits x)
odd_octet x h = same_below_at odd (λ y. with_parity (upper_bits y)) 256 x odd_table h

-- ---- the octet of the lowest bits

low_bit : (x : ℕ) → bit_and x 1 ≡ x % 2
low_bit x = and_mask x 1

abbrev pub low_octet : (a b c d e f g : ℕ) → ℕ
low_octet a b c d e f g =
    bit_or (bit_or (bit_or (bit_or (bit_or (bit_or (bit_and a 1 * 2 % 256) (bit_and b 1 * 4 % 256)) (bit_and c 1 * 8 % 256)) (bit_and d 1 * 16 % 256)) (bit_and e 1 * 32 % 256)) (bit_and f 1 * 64 % 256)) (bit_and g 1 * 128 % 256)

low_octet-sum : (a b c d e f g : ℕ) → low_octet a b c d e f g ≡ a % 2 * 2 + b % 2 * 4 + c % 2 * 8 + d % 2 * 16 + e % 2 * 32 + f % 2 * 64 + g % 2 * 128
low_octet-sum a b c d e f g =
    rw (low_bit a, low_bit b, low_bit c, low_bit d, low_bit e, low_bit f, low_bit g) (
    let e0 : a % 2 * 2 % 256 ≡ a % 2 * 2 = omega arith in
    let e1 : bit_or (a % 2 * 2) (b % 2 * 4 % 256) ≡ b % 2 * 4 + a % 2 * 2 = or_before_shift (a % 2 * 2) (b % 2) 4 256 refl (omega arith) (omega arith) in
    let e2 : bit_or (b % 2 * 4 + a % 2 * 2) (c % 2 * 8 % 256) ≡ c % 2 * 8 + (b % 2 * 4 + a % 2 * 2) = or_before_shift _ (c % 2) 8 256 refl (omega arith) (omega arith) in
    let e3 : bit_or (c % 2 * 8 + (b % 2 * 4 + a % 2 * 2)) (d % 2 * 16 % 256) ≡ d % 2 * 16 + (c % 2 * 8 + (b % 2 * 4 + a % 2 * 2)) = or_before_shift _ (d % 2) 16 256 refl (omega arith) (omega arith) in
    let e4 : bit_or (d % 2 * 16 + (c % 2 * 8 + (b % 2 * 4 + a % 2 * 2))) (e % 2 * 32 % 256) ≡ e % 2 * 32 + (d % 2 * 16 + (c % 2 * 8 + (b % 2 * 4 + a % 2 * 2))) = or_before_shift _ (e % 2) 32 256 refl (omega arith) (omega arith) in
    let e5 : bit_or (e % 2 * 32 + (d % 2 * 16 + (c % 2 * 8 + (b % 2 * 4 + a % 2 * 2)))) (f % 2 * 64 % 256) ≡ f % 2 * 64 + (e % 2 * 32 + (d % 2 * 16 + (c % 2 * 8 + (b % 2 * 4 + a % 2 * 2)))) = or_before_shift _ (f % 2) 64 256 refl (omega arith) (omega arith) in
    let e6 : bit_or (f % 2 * 64 + (e % 2 * 32 + (d % 2 * 16 + (c % 2 * 8 + (b % 2 * 4 + a % 2 * 2))))) (g % 2 * 128 % 256) ≡ g % 2 * 128 + (f % 2 * 64 + (e % 2 * 32 + (d % 2 * 16 + (c % 2 * 8 + (b % 2 * 4 + a % 2 * 2))))) = or_before_shift _ (g % 2) 128 256 refl (omega arith) (omega arith) in
    rw (e0, e1, e2, e3, e4, e5, e6) (omega arith)
    )

pub upper_bits-sum : (n a b c d e f g : ℕ) → n ≡ a % 2 * 2 + b % 2 * 4 + c % 2 * 8 + d % 2 * 16 + e % 2 * 32 + f % 2 * 64 + g % 2 * 128 → upper_bits n ≡ g % 2 ∷ f % 2 ∷ e % 2 ∷ d % 2 ∷ c % 2 ∷ b % 2 ∷ a % 2 ∷ []
upper_bits-sum n a b c d e f g s =
    let b7 : n / 128 % 2 ≡ g % 2 = omega arith in
    let b6 : n / 64 % 2 ≡ f % 2 = omega arith in
    let b5 : n / 32 % 2 ≡ e % 2 = omega arith in
    let b4 : n / 16 % 2 ≡ d % 2 = omega arith in
    let b3 : n / 8 % 2 ≡ c % 2 = omega arith in
    let b2 : n / 4 % 2 ≡ b % 2 = omega arith in
    let b1 : n / 2 % 2 ≡ a % 2 = omega arith in
    cc

pub upper_bits-low_octet : (a b c d e f g : ℕ) → upper_bits (low_octet a b c d e f g) ≡ bit_at g 0 ∷ bit_at f 0 ∷ bit_at e 0 ∷ bit_at d 0 ∷ bit_at c 0 ∷ bit_at b 0 ∷ bit_at a 0 ∷ []
upper_bits-low_octet a b c d e f g =
    rw (div-one a, div-one b, div-one c, div-one d, div-one e, div-one f, div-one g) (upper_bits-sum (low_octet a b c d e f g) a b c d e f g (low_octet-sum a b c d e f g))

-- ---- weak keys

-- what holds of each of the four pairs holds of any
pair_by : (P : ℕ → ℕ → Type 0) → P 0x01 0x01 → P 0x1f 0x0e → P 0xe0 0xf1 → P 0xfe 0xfe → (a c : ℕ) → is_weak_pair a c ≡ true → P a c
pair_by P p q r s a c h =
    let is : (x y : ℕ) → P x y → ((x == a) && (y == c)) ≡ true → P a c =
    λ x y at e. let both = and_parts (x == a) (y == c) e in subst (λ (m : ℕ). P m c) (eqb-true x a both.0) (subst (λ (m : ℕ). P x m) (eqb-true y c both.1) at) in
    elim (or_cases _ _ h) [
      | inl e ↦ is 0x01 0x01 p e
      | inr h1 ↦ elim (or_cases _ _ h1) [
        | inl e ↦ is 0x1f 0x0e q e
        | inr h2 ↦ elim (or_cases _ _ h2) [
          | inl e ↦ is 0xe0 0xf1 r e
          | inr h3 ↦ elim (or_cases _ _ h3) [ inl e ↦ is 0xfe 0xfe s e | inr none ↦ absurd (false≢true none) ]
        ]
      ]
    ]

-- a b a b c d c d, of the octets of a key
abbrev pub repeated : List ℕ → List ℕ
repeated key =
    let a = slice_index key 0 in let b = slice_index key 1 in let c = slice_index key 4 in let d = slice_index key 5 in
    a ∷ b ∷ a ∷ b ∷ c ∷ d ∷ c ∷ d ∷ []

-- what the code tests
abbrev pub tests_weak : List ℕ → Bool
tests_weak key = bytes_eq key (repeated key) && (is_weak_pair (slice_index key 0) (slice_index key 4) && is_weak_pair (slice_index key 1) (slice_index key 5))

weak_table : all_below (λ k. tests_weak (get_or weak_keys k [])) 16 ≡ true
unfolding weak_keys
weak_table = refl

length-weak_keys : length weak_keys ≡ 16
unfolding weak_keys
length-weak_keys = refl

-- a weak key is one of the 16
pub weak_at : (key : List ℕ) → is_weak key ≡ true → (k : ℕ) × (k < 16) × (get_or weak_keys k [] ≡ key)
unfolding is_weak
weak_at key h =
    let any = Any-from_list_any (bytes_eq key) weak_keys h in
    let is : key ≡ any.1 = (bytes_decides key any.1).0 any.4 in
    (any.0, omega (arith, any.2, length-weak_keys), get_or_default weak_keys any.0 [] any.1 any.2 ∙ any.3 ∙ sym is)

pub is_weak-Contains : (key : List ℕ) → Contains weak_keys key → is_weak key ≡ true
unfolding is_weak
is_weak-Contains key h = list_any_at (bytes_eq key) weak_keys h.0 key h.1 ((bytes_decides key (get_or weak_keys h.0 key)).1 (sym h.2))

-- the key of two pairs is weak
is_weak-pairs : (a b c d : ℕ) → is_weak_pair a c ≡ true → is_weak_pair b d ≡ true → is_weak (a ∷ b ∷ a ∷ b ∷ c ∷ d ∷ c ∷ d ∷ []) ≡ true
unfolding is_weak weak_keys
is_weak-pairs a b c d first second =
    let with : ℕ → ℕ → Type 0 = λ x y. is_weak (x ∷ b ∷ x ∷ b ∷ y ∷ d ∷ y ∷ d ∷ []) ≡ true in
    pair_by with
    (pair_by (λ x y. is_weak (0x01 ∷ x ∷ 0x01 ∷ x ∷ 0x01 ∷ y ∷ 0x01 ∷ y ∷ []) ≡ true) refl refl refl refl b d second)
    (pair_by (λ x y. is_weak (0x1f ∷ x ∷ 0x1f ∷ x ∷ 0x0e ∷ y ∷ 0x0e ∷ y ∷ []) ≡ true) refl refl refl refl b d second)
    (pair_by (λ x y. is_weak (0xe0 ∷ x ∷ 0xe0 ∷ x ∷ 0xf1 ∷ y ∷ 0xf1 ∷ y ∷ []) ≡ true) refl refl refl refl b d second)
    (pair_by (λ x y. is_weak (0xfe ∷ x ∷ 0xfe ∷ x ∷ 0xfe ∷ y ∷ 0xfe ∷ y ∷ []) ≡ true) refl refl refl refl b d second)
    a c first

-- the code's test is the definition's
pub tests_weak-is : (key : List ℕ) → tests_weak key ≡ is_weak key
tests_weak-is key =
    elim (cases_Bool (is_weak key)) [
      | inl weak ↦
          let at = weak_at key weak in
          subst (λ (l : List ℕ). tests_weak l ≡ true) at.2 (all_below_at (λ k. tests_weak (get_or weak_keys k [])) 16 at.0 weak_table at.1) ∙ sym weak
      | inr strong ↦
          false_from_ne_true (tests_weak key) (λ h.
          let both = and_parts (bytes_eq key (repeated key)) _ h in
          let pairs = and_parts (is_weak_pair (slice_index key 0) (slice_index key 4)) _ both.1 in
          let is : key ≡ repeated key = (bytes_decides key (repeated key)).0 both.0 in
          let weak : is_weak (repeated key) ≡ true = is_weak-pairs (slice_index key 0) (slice_index key 1) (slice_index key 4) (slice_index key 5) pairs.0 pairs.1 in
          both_ways (is_weak key) strong (ap is_weak is ∙ weak)) ∙ sym strong
    ]

-- it by its parts, as the code comes to it
pub is_weak-second : (key : List ℕ) → bytes_eq key (repeated key) ≡ true → is_weak_pair (slice_index key 0) (slice_index key 4) ≡ true → is_weak_pair (slice_index key 1) (slice_index key 5) ≡ is_weak key
is_weak-second key repeats first =
    let parts : tests_weak key ≡ is_weak_pair (slice_index key 1) (slice_index key 5) = rw (repeats, first) refl in
    sym parts ∙ tests_weak-is key

pub is_weak-not_first : (key : List ℕ) → is_weak_pair (slice_index key 0) (slice_index key 4) ≡ false → false ≡ is_weak key
is_weak-not_first key first =
    let none : tests_weak key ≡ false = and_right (bytes_eq key (repeated key)) _ (and_left _ _ first) in
    sym none ∙ tests_weak-is key

pub is_weak-not_repeated : (key : List ℕ) → bytes_eq key (repeated key) ≡ false → false ≡ is_weak key
is_weak-not_repeated key other = sym (and_left _ _ other) ∙ tests_weak-is key

-- ---- the key

pub length-repaired : (key : List ℕ) → length (repaired key) ≡ length key
unfolding repaired
length-repaired key =
    elim (cases_Bool (is_weak key)) [
      | inl weak ↦ rw weak (length-set key 7 _)
      | inr strong ↦ rw strong refl
    ]

pub length-key_part : (octets : List ℕ) → length (key_part octets) ≡ 8
unfolding key_part stretched
length-key_part octets = length-repaired (stretched octets)

-- eight octets written after those that are done
put_next : (done next rest : List ℕ) (n : ℕ) → length done ≡ n → put_mid n 8 (done ++ rest) next ≡ done ++ next ++ drop 8 rest
put_next done next rest n l =
    ap (λ (prefix : List ℕ). prefix ++ (next ++ drop 8 (drop n (done ++ rest)))) (take_at done rest n l)
    ∙ ap (λ (back : List ℕ). done ++ (next ++ drop 8 back)) (drop_at done rest n l)
    ∙ sym (append_assoc done next (drop 8 rest))

two_parts : (p q rest : List ℕ) → length p ≡ 8 → put_mid 8 8 (p ++ rest) q ≡ p ++ q ++ drop 8 rest
two_parts p q rest lp = put_next p q rest 8 lp

-- there is room for the third part
pub third_within : (p q rest : List ℕ) → length p ≡ 8 → length q ≡ 8 → length rest ≡ 16 → 24 ≤ length (put_mid 8 8 (p ++ rest) q)
third_within p q rest lp lq lrest =
    rw (two_parts p q rest lp) (omega (arith, length-append (p ++ q) (drop 8 rest), length-append p q, length-drop 8 rest))

pub three_parts : (p q r rest : List ℕ) → length p ≡ 8 → length q ≡ 8 → length rest ≡ 16 → put_mid 16 8 (put_mid 8 8 (p ++ rest) q) r ≡ p ++ q ++ r
three_parts p q r rest lp lq lrest =
    let both : length (p ++ q) ≡ 16 = length-append p q ∙ omega arith in
    let none : drop 8 (drop 8 rest) ≡ [] = drop_all 8 (drop 8 rest) (omega (arith, length-drop 8 rest)) in
    ap (λ (old : List ℕ). put_mid 16 8 old r) (two_parts p q rest lp)
    ∙ put_next (p ++ q) r (drop 8 rest) 16 both
    ∙ ap (λ (back : List ℕ). p ++ q ++ r ++ back) none
    ∙ append-nil (p ++ q ++ r)

pub key_concatenated : (seed p q r : List ℕ) → p ≡ key_part (take 7 seed) → q ≡ key_part (take 7 (drop 7 seed)) → r ≡ key_part (take 7 (drop 14 seed)) → p ++ q ++ r ≡ random_to_key seed
unfolding random_to_key
key_concatenated seed p q r ep eq er = rw (ep, eq, er) refl
