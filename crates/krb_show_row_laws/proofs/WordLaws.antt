-- Words, and what stands beside them.
use Rattle.std.proofs.Common.{◌≡◌, ℕ, zero, suc, ◌/◌, ◌%◌, ◌<◌, nat_eq, Bool, true, false, ◌||◌, if◌then◌else◌, refl, sym, ap, ◌∙◌, ℤ, pos, negsuc, List, [], ◌∷◌, ◌++◌, codes, length, arith}
use Rattle.std.specs.Fmt.{decimal, digits, digits_onto, digit_glyph, signed_decimal}
use Rattle.std.proofs.lemmas.List.{append_assoc, append_cancel_left}
use Rattle.std.proofs.lemmas.Grind.{common_steps}
use Rattle.krb_der_core.specs.Encoding.{IsOctets}
use Rattle.krb_show_text.specs.declared.escape.Style.TheVariants as style
use Rattle.krb_show.specs.Leaves.{digit, hex_octet, hex}
use Rattle.krb_show_text.specs.Text.{is_printable, itself_or, escaped_octet, escaped, spaced_hex, octets_text}
use Rattle.krb_show_row_laws.specs.Telling.{all_of, Stops, other_than, is_name_octet, is_name, is_word_octet, is_digit, IsBeside, IsNameBeside, begins_as_octets}
use Rattle.krb_show_row_laws.proofs.SplitLaws.{and_left, and_right, and_both, head, tail, split, all_weaker}

-- ---- choices

pub chosen : {A : Type 0} (b : Bool) (x y : A) → b ≡ true → (if b then x else y) ≡ x
chosen true x y h = refl
chosen false x y h = absurd (cc)

pub other : {A : Type 0} (b : Bool) (x y : A) → b ≡ false → (if b then x else y) ≡ y
other true x y h = absurd (cc)
other false x y h = refl

pub of_other : (b : Bool) → other_than b ≡ true → b ≡ false
of_other true h = absurd (cc)
of_other false h = refl

-- ---- what is written as itself

pub plain_itself : (xs : List ℕ) → all_of is_printable xs ≡ true → escaped style.Plain xs ≡ xs
plain_itself [] h = refl
plain_itself (x ∷ xs) h =
    ap (λ (l : List ℕ). l ++ escaped style.Plain xs) (chosen (is_printable x) (x ∷ []) (codes "\\x" ++ hex_octet x)
    (and_left (is_printable x) (all_of is_printable xs) h))
    ∙ ap (λ (l : List ℕ). x ∷ l) (plain_itself xs (and_right (is_printable x) (all_of is_printable xs) h))

three_of_four : (a b c d : Bool) → ((a || b) || c) || d ≡ false → (a || b) || d ≡ false
three_of_four true b c d h = absurd (cc)
three_of_four false true c d h = absurd (cc)
three_of_four false false true d h = absurd (cc)
three_of_four false false false d h = h

name_octet_itself : (x : ℕ) → is_name_octet x ≡ true → escaped_octet style.Name x ≡ x ∷ []
name_octet_itself x h =
    let special = of_other (((nat_eq x 32 || nat_eq x 58) || nat_eq x 91) || nat_eq x 92)
    (and_right (is_printable x) (other_than (((nat_eq x 32 || nat_eq x 58) || nat_eq x 91) || nat_eq x 92)) h) in
    other ((nat_eq x 32 || nat_eq x 58) || nat_eq x 92) (codes "\\x" ++ hex_octet x) (itself_or (codes "\\x") x)
    (three_of_four (nat_eq x 32) (nat_eq x 58) (nat_eq x 91) (nat_eq x 92) special)
    ∙ chosen (is_printable x) (x ∷ []) (codes "\\x" ++ hex_octet x) (and_left (is_printable x)
    (other_than (((nat_eq x 32 || nat_eq x 58) || nat_eq x 91) || nat_eq x 92)) h)

names_itself : (xs : List ℕ) → all_of is_name_octet xs ≡ true → escaped style.Name xs ≡ xs
names_itself [] h = refl
names_itself (x ∷ xs) h =
    ap (λ (l : List ℕ). l ++ escaped style.Name xs) (name_octet_itself x (and_left (is_name_octet x) (all_of is_name_octet xs) h))
    ∙ ap (λ (l : List ℕ). x ∷ l) (names_itself xs (and_right (is_name_octet x) (all_of is_name_octet xs) h))

pub name_all : (xs : List ℕ) → is_name xs ≡ true → all_of is_name_octet xs ≡ true
name_all [] h = refl
name_all (x ∷ xs) h = h

pub name_itself : (xs : List ℕ) → is_name xs ≡ true → escaped style.Name xs ≡ xs
name_itself xs h = names_itself xs (name_all xs h)

-- ---- digits

digit_is_word : (x : ℕ) → is_digit x ≡ true → is_word_octet x ≡ true
digit_is_word x h = grind (arith, common_steps)

pub word_is_printable : (x : ℕ) → is_word_octet x ≡ true → is_printable x ≡ true
word_is_printable x h = and_left (is_printable x) (other_than (nat_eq x 32)) h

glyph_is_digit : (n : ℕ) → n < 10 → is_digit (digit_glyph false n) ≡ true
glyph_is_digit n small = grind (arith, common_steps)

either_digits : (b : Bool) (xs ys : List ℕ) → all_of is_digit xs ≡ true → all_of is_digit ys ≡ true → all_of is_digit (if b then xs else ys) ≡ true
either_digits true xs ys h k = h
either_digits false xs ys h k = k

digits_onto_all : (k n : ℕ) (acc : List ℕ) → all_of is_digit acc ≡ true → all_of is_digit (digits_onto k 10 false n acc) ≡ true
digits_onto_all zero n acc h = h
digits_onto_all (suc k) n acc h =
    let one = and_both (is_digit (digit_glyph false (n % 10))) (all_of is_digit acc) (glyph_is_digit (n % 10) (omega arith)) h in
    either_digits (nat_eq (n / 10) 0) (digit_glyph false (n % 10) ∷ acc) (digits_onto k 10 false (n / 10) (digit_glyph false (n % 10) ∷ acc)) one
    (digits_onto_all k (n / 10) (digit_glyph false (n % 10) ∷ acc) one)

pub decimal_digits : (n : ℕ) → all_of is_digit (decimal n) ≡ true
unfolding digits
decimal_digits n = digits_onto_all 64 n [] refl

pub decimal_word : (n : ℕ) → all_of is_word_octet (decimal n) ≡ true
decimal_word n = all_weaker is_digit is_word_octet digit_is_word (decimal n) (decimal_digits n)

pub signed_word : (z : ℤ) → all_of is_word_octet (signed_decimal z) ≡ true
signed_word (pos n) = decimal_word n
signed_word (negsuc n) = decimal_word (suc n)

pub word_itself : (xs : List ℕ) → all_of is_word_octet xs ≡ true → escaped style.Plain xs ≡ xs
word_itself xs h = plain_itself xs (all_weaker is_word_octet is_printable word_is_printable xs h)

-- ---- a word tells itself, whatever stands beside it

pub beside_stops : (r : List ℕ) → IsBeside r → Stops is_word_octet r
beside_stops [] h = tt
beside_stops (x ∷ xs) h = ap is_word_octet h

pub name_beside : (r : List ℕ) → IsNameBeside r → IsBeside r
name_beside [] h = tt
name_beside (x ∷ xs) h = h.0

pub one_word : (v w r s : List ℕ) → all_of is_word_octet v ≡ true → all_of is_word_octet w ≡ true → IsBeside r → IsBeside s → v ++ r ≡ w ++ s
    → (v ≡ w) × (r ≡ s)
one_word v w r s h k f g e = split is_word_octet v w r s h k (beside_stops r f) (beside_stops s g) e

-- ---- octets in hexadecimal

pub digit_injective : (m n : ℕ) → m < 16 → n < 16 → digit m ≡ digit n → m ≡ n
digit_injective m n h k e = grind (arith, common_steps)

one_hex_octet : (x y : ℕ) → x < 256 → y < 256 → digit (x / 16) ≡ digit (y / 16) → digit (x % 16) ≡ digit (y % 16) → x ≡ y
one_hex_octet x y h k e f =
    let high = digit_injective (x / 16) (y / 16) (omega arith) (omega arith) e in
    let low = digit_injective (x % 16) (y % 16) (omega arith) (omega arith) f in
    omega (arith, high, low)

pub one_hex : (xs ys : List ℕ) → IsOctets xs → IsOctets ys → hex xs ≡ hex ys → xs ≡ ys
one_hex [] [] h k e = refl
one_hex [] (y ∷ ys) h k e = absurd (cc)
one_hex (x ∷ xs) [] h k e = absurd (cc)
one_hex (x ∷ xs) (y ∷ ys) h k e =
    let first = head _ _ _ _ e in
    let behind = tail _ _ _ _ e in
    let second = head _ _ _ _ behind in
    let rest = one_hex xs ys (λ i. h (suc i)) (λ i. k (suc i)) (tail _ _ _ _ behind) in
    ap (λ z. z ∷ xs) (one_hex_octet x y (h 0) (k 0) first second) ∙ ap (λ (l : List ℕ). y ∷ l) rest

one_spaced : (xs ys : List ℕ) → IsOctets xs → IsOctets ys → spaced_hex xs ≡ spaced_hex ys → xs ≡ ys
one_spaced [] [] h k e = refl
one_spaced [] (y ∷ ys) h k e = absurd (cc)
one_spaced (x ∷ xs) [] h k e = absurd (cc)
one_spaced (x ∷ xs) (y ∷ ys) h k e = one_hex (x ∷ xs) (y ∷ ys) h k (tail _ _ _ _ e)

-- how many octets, and these
abbrev pub octets_rest : List ℕ → List ℕ
octets_rest xs = codes " octets" ++ spaced_hex xs

pub octets_parts : (xs : List ℕ) → octets_text xs ≡ decimal (length xs) ++ octets_rest xs
octets_parts xs = append_assoc (decimal (length xs)) (codes " octets") (spaced_hex xs)

pub one_octets : (xs ys : List ℕ) → IsOctets xs → IsOctets ys → octets_text xs ≡ octets_text ys → xs ≡ ys
one_octets xs ys h k e =
    let parts = one_word (decimal (length xs)) (decimal (length ys)) (octets_rest xs) (octets_rest ys) (decimal_word (length xs)) (decimal_word (length ys))
    refl refl
    (sym (octets_parts xs) ∙ e ∙ octets_parts ys) in
    one_spaced xs ys h k (append_cancel_left (codes " octets") (spaced_hex xs) (spaced_hex ys) parts.1)

-- no word with a name beside it is octets
no_octets : (r xs : List ℕ) → IsNameBeside r → r ≡ octets_rest xs → ⊥
no_octets [] xs h e = cc
no_octets (x ∷ r) xs h e =
    let as_octets : begins_as_octets r ≡ true = ap begins_as_octets (tail _ _ _ _ e) in
    let not : begins_as_octets r ≡ false = h.1 in
    cc

pub word_or_octets : (v r xs : List ℕ) → all_of is_word_octet v ≡ true → IsNameBeside r → v ++ r ≡ octets_text xs → ⊥
word_or_octets v r xs h f e =
    no_octets r xs f (one_word v (decimal (length xs)) r (octets_rest xs) h (decimal_word (length xs)) (name_beside r f) refl (e ∙ octets_parts xs)).1
