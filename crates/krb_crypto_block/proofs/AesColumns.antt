-- MixColumns and its inverse undo each other: both are additive, so it is enough to compute them on
-- columns with one octet that is not 0.
use Rattle.std.proofs.Common.{◌≡◌, ℕ, ◌<◌, ◌==◌, ◌&&◌, Bool, true, bit_xor, List, [], ◌∷◌, slice_index, refl, sym, ap, ◌∙◌}
use Rattle.std.proofs.lemmas.Bool.{and_parts, eqb-true}
use lib.Bits.{xor_zero_r}
use Rattle.krb_crypto_block.specs.Polynomial.{times}
use Rattle.krb_crypto_block.specs.Aes.{product_of_columns, add_words, mix_polynomial}
use Rattle.krb_crypto_block.specs.InverseCipher.{unmix_polynomial}
use Rattle.krb_crypto_block.proofs.AesLinear.{xor_medial, times_xor}
use Rattle.krb_crypto_block.proofs.Tables.{all_below, all_below_at}

abbrev sum4 : ℕ → ℕ → ℕ → ℕ → ℕ
sum4 a b c d = bit_xor (bit_xor (bit_xor a b) c) d

sum4_xor : (a b c d e f g h : ℕ) → sum4 (bit_xor a e) (bit_xor b f) (bit_xor c g) (bit_xor d h) ≡ bit_xor (sum4 a b c d) (sum4 e f g h)
sum4_xor a b c d e f g h =
    ap (λ (x : ℕ). bit_xor (bit_xor x (bit_xor c g)) (bit_xor d h)) (xor_medial a e b f)
    ∙ ap (λ (x : ℕ). bit_xor x (bit_xor d h)) (xor_medial (bit_xor a b) (bit_xor e f) c g)
    ∙ xor_medial (bit_xor (bit_xor a b) c) (bit_xor (bit_xor e f) g) d h

-- four products by constants are additive
products_xor : (p q r t a b c d e f g h : ℕ)
    → sum4 (times p (bit_xor a e)) (times q (bit_xor b f)) (times r (bit_xor c g)) (times t (bit_xor d h))
    ≡ bit_xor (sum4 (times p a) (times q b) (times r c) (times t d)) (sum4 (times p e) (times q f) (times r g) (times t h))
products_xor p q r t a b c d e f g h =
    rw (times_xor p a e, times_xor q b f, times_xor r c g, times_xor t d h)
    (sum4_xor (times p a) (times q b) (times r c) (times t d) (times p e) (times q f) (times r g) (times t h))

same_words : (a b c d e f g h : ℕ) → a ≡ e → b ≡ f → c ≡ g → d ≡ h → a ∷ b ∷ c ∷ d ∷ [] ≡ e ∷ f ∷ g ∷ h ∷ []
same_words a b c d e f g h p q r t = cc

-- a column's product by a polynomial is additive
pub product_xor : (p : List ℕ) (a b c d e f g h : ℕ)
    → product_of_columns p (bit_xor a e ∷ bit_xor b f ∷ bit_xor c g ∷ bit_xor d h ∷ [])
    ≡ add_words (product_of_columns p (a ∷ b ∷ c ∷ d ∷ [])) (product_of_columns p (e ∷ f ∷ g ∷ h ∷ []))
product_xor p a b c d e f g h =
    same_words _ _ _ _ _ _ _ _
    (products_xor (slice_index p 0) (slice_index p 3) (slice_index p 2) (slice_index p 1) a b c d e f g h)
    (products_xor (slice_index p 1) (slice_index p 0) (slice_index p 3) (slice_index p 2) a b c d e f g h)
    (products_xor (slice_index p 2) (slice_index p 1) (slice_index p 0) (slice_index p 3) a b c d e f g h)
    (products_xor (slice_index p 3) (slice_index p 2) (slice_index p 1) (slice_index p 0) a b c d e f g h)

-- one product after another
abbrev both : List ℕ → List ℕ → List ℕ → List ℕ
both p q v = product_of_columns p (product_of_columns q v)

both_xor : (p q : List ℕ) (a b c d e f g h : ℕ)
    → both p q (bit_xor a e ∷ bit_xor b f ∷ bit_xor c g ∷ bit_xor d h ∷ [])
    ≡ add_words (both p q (a ∷ b ∷ c ∷ d ∷ [])) (both p q (e ∷ f ∷ g ∷ h ∷ []))
both_xor p q a b c d e f g h =
    ap (product_of_columns p) (product_xor q a b c d e f g h)
    ∙ product_xor p _ _ _ _ _ _ _ _

abbrev is_same_word : List ℕ → List ℕ → Bool
is_same_word u v = (slice_index u 0 == slice_index v 0) && (slice_index u 1 == slice_index v 1)
    && (slice_index u 2 == slice_index v 2) && (slice_index u 3 == slice_index v 3)

-- the columns with one octet x
abbrev first : ℕ → List ℕ
first x = x ∷ 0 ∷ 0 ∷ 0 ∷ []

abbrev second : ℕ → List ℕ
second x = 0 ∷ x ∷ 0 ∷ 0 ∷ []

abbrev third : ℕ → List ℕ
third x = 0 ∷ 0 ∷ x ∷ 0 ∷ []

abbrev fourth : ℕ → List ℕ
fourth x = 0 ∷ 0 ∷ 0 ∷ x ∷ []

abbrev is_kept : List ℕ → List ℕ → (ℕ → List ℕ) → ℕ → Bool
is_kept p q at x = is_same_word (both p q (at x)) (at x)

is_kept_unmix : (all_below (is_kept unmix_polynomial mix_polynomial first) 256 && all_below (is_kept unmix_polynomial mix_polynomial second) 256
    && all_below (is_kept unmix_polynomial mix_polynomial third) 256 && all_below (is_kept unmix_polynomial mix_polynomial fourth) 256) ≡ true
unfolding times
is_kept_unmix = refl

is_kept_mix : (all_below (is_kept mix_polynomial unmix_polynomial first) 256 && all_below (is_kept mix_polynomial unmix_polynomial second) 256
    && all_below (is_kept mix_polynomial unmix_polynomial third) 256 && all_below (is_kept mix_polynomial unmix_polynomial fourth) 256) ≡ true
unfolding times
is_kept_mix = refl

is_same_word_true : (a b c d e f g h : ℕ) → is_same_word (a ∷ b ∷ c ∷ d ∷ []) (e ∷ f ∷ g ∷ h ∷ []) ≡ true
    → a ∷ b ∷ c ∷ d ∷ [] ≡ e ∷ f ∷ g ∷ h ∷ []
is_same_word_true a b c d e f g h t =
    let abc = and_parts ((a == e) && (b == f) && (c == g)) (d == h) t in
    let ab = and_parts ((a == e) && (b == f)) (c == g) abc.0 in
    let one = and_parts (a == e) (b == f) ab.0 in
    same_words a b c d e f g h (eqb-true a e one.0) (eqb-true b f one.1) (eqb-true c g ab.1) (eqb-true d h abc.1)

-- where each octet alone comes back, a whole column does
comes_back : (p q : List ℕ)
    → (all_below (is_kept p q first) 256 && all_below (is_kept p q second) 256 && all_below (is_kept p q third) 256 && all_below (is_kept p q fourth) 256) ≡ true
    → (a b c d : ℕ) → a < 256 → b < 256 → c < 256 → d < 256
    → both p q (a ∷ b ∷ c ∷ d ∷ []) ≡ a ∷ b ∷ c ∷ d ∷ []
comes_back p q t a b c d ha hb hc hd =
    let three = and_parts (all_below (is_kept p q first) 256 && all_below (is_kept p q second) 256 && all_below (is_kept p q third) 256) (all_below (is_kept p q fourth) 256) t in
    let two = and_parts (all_below (is_kept p q first) 256 && all_below (is_kept p q second) 256) (all_below (is_kept p q third) 256) three.0 in
    let one = and_parts (all_below (is_kept p q first) 256) (all_below (is_kept p q second) 256) two.0 in
    let e1 : both p q (first a) ≡ first a = is_same_word_true _ _ _ _ _ _ _ _ (all_below_at (is_kept p q first) 256 a one.0 ha) in
    let e2 : both p q (second b) ≡ second b = is_same_word_true _ _ _ _ _ _ _ _ (all_below_at (is_kept p q second) 256 b one.1 hb) in
    let e3 : both p q (third c) ≡ third c = is_same_word_true _ _ _ _ _ _ _ _ (all_below_at (is_kept p q third) 256 c two.1 hc) in
    let e4 : both p q (fourth d) ≡ fourth d = is_same_word_true _ _ _ _ _ _ _ _ (all_below_at (is_kept p q fourth) 256 d three.1 hd) in
    let ab : both p q (a ∷ b ∷ 0 ∷ 0 ∷ []) ≡ a ∷ b ∷ 0 ∷ 0 ∷ [] =
    ap (λ (x : ℕ). both p q (x ∷ b ∷ 0 ∷ 0 ∷ [])) (sym (xor_zero_r a))
    ∙ both_xor p q a 0 0 0 0 b 0 0 ∙ ap (λ (v : List ℕ). add_words v (both p q (second b))) e1
    ∙ ap (add_words (first a)) e2 ∙ ap (λ (x : ℕ). x ∷ b ∷ 0 ∷ 0 ∷ []) (xor_zero_r a) in
    let cd : both p q (0 ∷ 0 ∷ c ∷ d ∷ []) ≡ 0 ∷ 0 ∷ c ∷ d ∷ [] =
    ap (λ (x : ℕ). both p q (0 ∷ 0 ∷ x ∷ d ∷ [])) (sym (xor_zero_r c))
    ∙ both_xor p q 0 0 c 0 0 0 0 d ∙ ap (λ (v : List ℕ). add_words v (both p q (fourth d))) e3
    ∙ ap (add_words (third c)) e4 ∙ ap (λ (x : ℕ). 0 ∷ 0 ∷ x ∷ d ∷ []) (xor_zero_r c) in
    ap (λ (x : ℕ). both p q (x ∷ b ∷ c ∷ d ∷ [])) (sym (xor_zero_r a))
    ∙ ap (λ (x : ℕ). both p q (bit_xor a 0 ∷ x ∷ c ∷ d ∷ [])) (sym (xor_zero_r b))
    ∙ both_xor p q a b 0 0 0 0 c d ∙ ap (λ (v : List ℕ). add_words v (both p q (0 ∷ 0 ∷ c ∷ d ∷ []))) ab
    ∙ ap (add_words (a ∷ b ∷ 0 ∷ 0 ∷ [])) cd
    ∙ same_words _ _ _ _ _ _ _ _ (xor_zero_r a) (xor_zero_r b) refl refl

pub unmix_mix : (a b c d : ℕ) → a < 256 → b < 256 → c < 256 → d < 256
    → product_of_columns unmix_polynomial (product_of_columns mix_polynomial (a ∷ b ∷ c ∷ d ∷ [])) ≡ a ∷ b ∷ c ∷ d ∷ []
unmix_mix = comes_back unmix_polynomial mix_polynomial is_kept_unmix

pub mix_unmix : (a b c d : ℕ) → a < 256 → b < 256 → c < 256 → d < 256
    → product_of_columns mix_polynomial (product_of_columns unmix_polynomial (a ∷ b ∷ c ∷ d ∷ [])) ≡ a ∷ b ∷ c ∷ d ∷ []
mix_unmix = comes_back mix_polynomial unmix_polynomial is_kept_mix
