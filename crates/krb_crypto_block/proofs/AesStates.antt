-- Operations on states, and what undoes them.
use Rattle.std.proofs.Common.{◌≡◌, ℕ, zero, suc, ◌+◌, ◌*◌, ◌<◌, ◌%◌, nat_lt, true, bit_xor, List, [], ◌∷◌, length, drop, slice_index, refl, sym, ap, ◌∙◌, arith, lit<, ◌-◌, inl, inr}
use Rattle.std.specs.List.{All}
use Rattle.std.proofs.lemmas.List.{drop_all, get_or_past}
use Rattle.std.proofs.lemmas.List.Elements.{All-from_recursion, All-get_or}
use Rattle.std.proofs.lemmas.Nat.{xor_lt}
use Rattle.std.proofs.lemmas.Bool.{ltb-true, cases_lt}
use Rattle.std.proofs.Math.Seq.{drop-cons}
use lib.Bits.{xor_assoc, xor_self, xor_zero_r}
use Rattle.krb_crypto_block.specs.Polynomial.{times}
use Rattle.krb_crypto_block.specs.SBox.{s_box}
use Rattle.krb_crypto_block.specs.Aes.{octet_at, state_of, column_coefficient, column_of, mix_polynomial, sub_bytes, shift_rows, mix_columns, add_round_key}
use Rattle.krb_crypto_block.specs.InverseCipher.{inverse_s_box, unmix_polynomial, inverse_sub_bytes, inverse_shift_rows, inverse_mix_columns}
use Rattle.krb_crypto_block.specs.Modes.{IsOctets}
use Rattle.krb_crypto_block.proofs.Tables.{all_below, all_below_at}
use Rattle.krb_crypto_block.proofs.AesTables.{s_box_octet, inverse_s_box_octet, s_box_undoes, inverse_s_box_undoes}
use Rattle.krb_crypto_block.proofs.AesColumns.{unmix_mix, mix_unmix}

-- ---- a state by its octets

-- 16 octets
pub record IsState (s : List ℕ) : Type 0 where
  pub long : length s ≡ 16
  pub octets : IsOctets s

abbrev items : List ℕ → ℕ → ℕ → List ℕ
items s i zero = []
items s i (suc n) = slice_index s i ∷ items s (suc i) n

items-eq : (n i : ℕ) (s : List ℕ) → length s ≡ i + n → items s i n ≡ drop i s
items-eq zero i s h = sym (drop_all i s (omega arith))
items-eq (suc n) i s h =
    ap (λ (t : List ℕ). slice_index s i ∷ t) (items-eq n (suc i) s (omega arith)) ∙ sym (drop-cons s i 0 (omega arith))

pub state_by_octets : (s : List ℕ) → length s ≡ 16 → state_of (octet_at s) ≡ s
state_by_octets s h = items-eq 16 0 s h

pub state_same : (f g : ℕ → ℕ → ℕ) → ((r c : ℕ) → r < 4 → c < 4 → f r c ≡ g r c) → state_of f ≡ state_of g
state_same f g h =
    let e00 = h 0 0 (lit< tt) (lit< tt) in
    let e10 = h 1 0 (lit< tt) (lit< tt) in
    let e20 = h 2 0 (lit< tt) (lit< tt) in
    let e30 = h 3 0 (lit< tt) (lit< tt) in
    let e01 = h 0 1 (lit< tt) (lit< tt) in
    let e11 = h 1 1 (lit< tt) (lit< tt) in
    let e21 = h 2 1 (lit< tt) (lit< tt) in
    let e31 = h 3 1 (lit< tt) (lit< tt) in
    let e02 = h 0 2 (lit< tt) (lit< tt) in
    let e12 = h 1 2 (lit< tt) (lit< tt) in
    let e22 = h 2 2 (lit< tt) (lit< tt) in
    let e32 = h 3 2 (lit< tt) (lit< tt) in
    let e03 = h 0 3 (lit< tt) (lit< tt) in
    let e13 = h 1 3 (lit< tt) (lit< tt) in
    let e23 = h 2 3 (lit< tt) (lit< tt) in
    let e33 = h 3 3 (lit< tt) (lit< tt) in
    cc

pub octets_at : (xs : List ℕ) → All (λ x. x < 256) xs → IsOctets xs
octets_at xs all i = elim (cases_lt i (length xs)) [
  | inl within ↦ All-get_or (λ x. x < 256) xs i 0 within all
  | inr past ↦ rw (get_or_past xs i 0 past) (lit< tt)
]

pub state_octets : (f : ℕ → ℕ → ℕ) → ((r c : ℕ) → r < 4 → c < 4 → f r c < 256) → IsState (state_of f)
state_octets f h =
    let p : ℕ → Type 0 = λ x. x < 256 in
    record {
      long = refl;
      octets = octets_at (state_of f) (All-from_recursion p (state_of f)
          (h 0 0 (lit< tt) (lit< tt), (h 1 0 (lit< tt) (lit< tt), (h 2 0 (lit< tt) (lit< tt), (h 3 0 (lit< tt) (lit< tt), (h 0 1 (lit< tt) (lit< tt), (h 1 1 (lit< tt) (lit< tt), (h 2 1 (lit< tt) (lit< tt), (h 3 1 (lit< tt) (lit< tt), (h 0 2 (lit< tt) (lit< tt), (h 1 2 (lit< tt) (lit< tt), (h 2 2 (lit< tt) (lit< tt), (h 3 2 (lit< tt) (lit< tt), (h 0 3 (lit< tt) (lit< tt), (h 1 3 (lit< tt) (lit< tt), (h 2 3 (lit< tt) (lit< tt), (h 3 3 (lit< tt) (lit< tt), (tt))))))))))))))))));
    }

octet_at-lt : (s : List ℕ) → IsState s → (r c : ℕ) → octet_at s r c < 256
octet_at-lt s is r c = is.octets (r + 4 * c)

-- ---- each operation gives a state

pub sub_bytes-IsState : (s : List ℕ) → IsState s → IsState (sub_bytes s)
unfolding sub_bytes
sub_bytes-IsState s is = state_octets (λ r c. s_box (octet_at s r c)) (λ r c hr hc. s_box_octet (octet_at s r c) (octet_at-lt s is r c))

pub inverse_sub_bytes-IsState : (s : List ℕ) → IsState s → IsState (inverse_sub_bytes s)
unfolding inverse_sub_bytes
inverse_sub_bytes-IsState s is = state_octets (λ r c. inverse_s_box (octet_at s r c)) (λ r c hr hc. inverse_s_box_octet (octet_at s r c) (octet_at-lt s is r c))

-- ---- and is undone

pub inverse_sub_bytes-sub_bytes : (s : List ℕ) → IsState s → inverse_sub_bytes (sub_bytes s) ≡ s
unfolding sub_bytes inverse_sub_bytes
inverse_sub_bytes-sub_bytes s is =
    state_same (λ r c. inverse_s_box (s_box (octet_at s r c))) (octet_at s) (λ r c hr hc. inverse_s_box_undoes (octet_at s r c) (octet_at-lt s is r c))
    ∙ state_by_octets s is.long

pub sub_bytes-inverse_sub_bytes : (s : List ℕ) → IsState s → sub_bytes (inverse_sub_bytes s) ≡ s
unfolding sub_bytes inverse_sub_bytes
sub_bytes-inverse_sub_bytes s is =
    state_same (λ r c. s_box (inverse_s_box (octet_at s r c))) (octet_at s) (λ r c hr hc. s_box_undoes (octet_at s r c) (octet_at-lt s is r c))
    ∙ state_by_octets s is.long

pub inverse_shift_rows-shift_rows : (s : List ℕ) → IsState s → inverse_shift_rows (shift_rows s) ≡ s
unfolding shift_rows inverse_shift_rows
inverse_shift_rows-shift_rows s is = state_by_octets s is.long

pub shift_rows-inverse_shift_rows : (s : List ℕ) → IsState s → shift_rows (inverse_shift_rows s) ≡ s
unfolding shift_rows inverse_shift_rows
shift_rows-inverse_shift_rows s is = state_by_octets s is.long

pub shift_rows-IsState : (s : List ℕ) → IsState s → IsState (shift_rows s)
unfolding shift_rows
shift_rows-IsState s is = state_octets (λ r c. octet_at s r ((c + r) % 4)) (λ r c hr hc. octet_at-lt s is r ((c + r) % 4))

pub inverse_shift_rows-IsState : (s : List ℕ) → IsState s → IsState (inverse_shift_rows s)
unfolding inverse_shift_rows
inverse_shift_rows-IsState s is = state_octets (λ r c. octet_at s r ((c + 4 - r) % 4)) (λ r c hr hc. octet_at-lt s is r ((c + 4 - r) % 4))

times_octets : all_below (λ a. all_below (λ x. nat_lt (times a x) 256) 256) 16 ≡ true
unfolding times
times_octets = refl

pub times_octet : (a x : ℕ) → a < 16 → x < 256 → times a x < 256
times_octet a x ha hx =
    let row : all_below (λ y. nat_lt (times a y) 256) 256 ≡ true = all_below_at (λ b. all_below (λ y. nat_lt (times b y) 256) 256) 16 a times_octets ha in
    ltb-true (times a x) 256 (all_below_at (λ y. nat_lt (times a y) 256) 256 x row hx)

mix_small : (k : ℕ) → k < 4 → slice_index mix_polynomial k < 16
mix_small k h = ltb-true (slice_index mix_polynomial k) 16 (all_below_at (λ j. nat_lt (slice_index mix_polynomial j) 16) 4 k refl h)

unmix_small : (k : ℕ) → k < 4 → slice_index unmix_polynomial k < 16
unmix_small k h = ltb-true (slice_index unmix_polynomial k) 16 (all_below_at (λ j. nat_lt (slice_index unmix_polynomial j) 16) 4 k refl h)

column_octet : (p s : List ℕ) → ((k : ℕ) → k < 4 → slice_index p k < 16) → IsState s
    → (r c : ℕ) → r < 4 → c < 4 → column_coefficient p (column_of s c) r < 256
column_octet p s small is r c hr hc =
    xor_lt 8 _ _
    (xor_lt 8 _ _
    (xor_lt 8 _ _ (times_octet (slice_index p (r % 4)) (octet_at s 0 c) (small (r % 4) (omega arith)) (octet_at-lt s is 0 c))
    (times_octet (slice_index p ((r + 3) % 4)) (octet_at s 1 c) (small ((r + 3) % 4) (omega arith)) (octet_at-lt s is 1 c)))
    (times_octet (slice_index p ((r + 2) % 4)) (octet_at s 2 c) (small ((r + 2) % 4) (omega arith)) (octet_at-lt s is 2 c)))
    (times_octet (slice_index p ((r + 1) % 4)) (octet_at s 3 c) (small ((r + 1) % 4) (omega arith)) (octet_at-lt s is 3 c))

pub mix_columns-IsState : (s : List ℕ) → IsState s → IsState (mix_columns s)
unfolding mix_columns
mix_columns-IsState s is = state_octets (λ r c. column_coefficient mix_polynomial (column_of s c) r) (column_octet mix_polynomial s mix_small is)

pub inverse_mix_columns-IsState : (s : List ℕ) → IsState s → IsState (inverse_mix_columns s)
unfolding inverse_mix_columns
inverse_mix_columns-IsState s is = state_octets (λ r c. column_coefficient unmix_polynomial (column_of s c) r) (column_octet unmix_polynomial s unmix_small is)

-- one of four columns
abbrev slice_index_of : List ℕ → List ℕ → List ℕ → List ℕ → ℕ → List ℕ
slice_index_of p q r t zero = p
slice_index_of p q r t (suc zero) = q
slice_index_of p q r t (suc (suc zero)) = r
slice_index_of p q r t (suc (suc (suc c))) = t

-- a state of four columns
columns_same : (p q r t : List ℕ) (s : List ℕ) → length s ≡ 16
    → p ≡ column_of s 0 → q ≡ column_of s 1 → r ≡ column_of s 2 → t ≡ column_of s 3
    → state_of (λ i c. slice_index (slice_index_of p q r t c) i) ≡ s
columns_same p q r t s long hp hq hr ht = rw (hp, hq, hr, ht) (state_by_octets s long)

pub inverse_mix_columns-mix_columns : (s : List ℕ) → IsState s → inverse_mix_columns (mix_columns s) ≡ s
unfolding mix_columns inverse_mix_columns
inverse_mix_columns-mix_columns s is =
    let at = octet_at-lt s is in
    let col = λ (c : ℕ). unmix_mix (octet_at s 0 c) (octet_at s 1 c) (octet_at s 2 c) (octet_at s 3 c)
    (at 0 c) (at 1 c) (at 2 c) (at 3 c) in
    columns_same _ _ _ _ s is.long (col 0) (col 1) (col 2) (col 3)

pub mix_columns-inverse_mix_columns : (s : List ℕ) → IsState s → mix_columns (inverse_mix_columns s) ≡ s
unfolding mix_columns inverse_mix_columns
mix_columns-inverse_mix_columns s is =
    let at = octet_at-lt s is in
    let col = λ (c : ℕ). mix_unmix (octet_at s 0 c) (octet_at s 1 c) (octet_at s 2 c) (octet_at s 3 c)
    (at 0 c) (at 1 c) (at 2 c) (at 3 c) in
    columns_same _ _ _ _ s is.long (col 0) (col 1) (col 2) (col 3)

-- ---- the key

pub add_round_key-IsState : (w : List ℕ) (n : ℕ) (s : List ℕ) → IsOctets w → IsState s → IsState (add_round_key w n s)
unfolding add_round_key
add_round_key-IsState w n s all is =
    state_octets (λ r c. bit_xor (octet_at s r c) (slice_index w (16 * n + (r + 4 * c))))
    (λ r c hr hc. xor_lt 8 (octet_at s r c) (slice_index w (16 * n + (r + 4 * c))) (octet_at-lt s is r c) (all (16 * n + (r + 4 * c))))

pub add_round_key_twice : (w : List ℕ) (n : ℕ) (s : List ℕ) → IsState s → add_round_key w n (add_round_key w n s) ≡ s
unfolding add_round_key
add_round_key_twice w n s is =
    let key = λ (r c : ℕ). slice_index w (16 * n + (r + 4 * c)) in
    state_same (λ r c. bit_xor (bit_xor (octet_at s r c) (key r c)) (key r c)) (octet_at s)
    (λ r c hr hc. xor_assoc (octet_at s r c) (key r c) (key r c) ∙ ap (bit_xor (octet_at s r c)) (xor_self (key r c)) ∙ xor_zero_r (octet_at s r c))
    ∙ state_by_octets s is.long

-- ---- columns after InvMixColumns

pub unmix_octet : (s : List ℕ) → IsState s → (r c : ℕ) → r < 4 → c < 4 → column_coefficient unmix_polynomial (column_of s c) r < 256
unmix_octet s is = column_octet unmix_polynomial s unmix_small is

pub unmix_lt : (a b c d r : ℕ) → a < 256 → b < 256 → c < 256 → d < 256 → r < 4 → column_coefficient unmix_polynomial (a ∷ b ∷ c ∷ d ∷ []) r < 256
unmix_lt a b c d r ha hb hc hd hr =
    xor_lt 8 _ _
    (xor_lt 8 _ _
    (xor_lt 8 _ _ (times_octet (slice_index unmix_polynomial (r % 4)) a (unmix_small (r % 4) (omega arith)) ha)
    (times_octet (slice_index unmix_polynomial ((r + 3) % 4)) b (unmix_small ((r + 3) % 4) (omega arith)) hb))
    (times_octet (slice_index unmix_polynomial ((r + 2) % 4)) c (unmix_small ((r + 2) % 4) (omega arith)) hc))
    (times_octet (slice_index unmix_polynomial ((r + 1) % 4)) d (unmix_small ((r + 1) % 4) (omega arith)) hd)
