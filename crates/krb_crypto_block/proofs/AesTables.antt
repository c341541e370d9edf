-- The S-box and its inverse as tables (FIPS 197, 5.1.1 and 5.3.2), and that they are.
use Rattle.std.proofs.Common.{◌≡◌, ℕ, zero, suc, ◌<◌, ◌≤◌, ◌^◌, ◌==◌, nat_lt, ◌&&◌, Bool, true, List, [], ◌∷◌, slice_index, refl, sym, ap, ◌∙◌, arith, inl, inr}
use Rattle.std.proofs.lemmas.Bool.{and_parts, ltb-true, eqb-true, eqb-false, cases_Bool, cases_lt}
use Rattle.krb_crypto_block.specs.InverseCipher.{inverse_affine_bit, inverse_s_box}
use Rattle.krb_crypto_block.specs.Polynomial.{times, inverse_below, inverse}
use Rattle.krb_crypto_block.specs.SBox.{from_bits, affine, s_box}
use Rattle.krb_crypto_block.proofs.AesLinear.{additive_times, additive_one, additive_after, same_octets}
use Rattle.krb_crypto_block.proofs.Tables.{same_below, same_below_at, all_below, all_below_at}

-- ---- the tables

abbrev pub S_BOX : List ℕ
S_BOX =
    99 ∷ 124 ∷ 119 ∷ 123 ∷ 242 ∷ 107 ∷ 111 ∷ 197 ∷ 48 ∷ 1 ∷ 103 ∷ 43 ∷ 254 ∷ 215 ∷ 171 ∷ 118
    ∷ 202 ∷ 130 ∷ 201 ∷ 125 ∷ 250 ∷ 89 ∷ 71 ∷ 240 ∷ 173 ∷ 212 ∷ 162 ∷ 175 ∷ 156 ∷ 164 ∷ 114 ∷ 192
    ∷ 183 ∷ 253 ∷ 147 ∷ 38 ∷ 54 ∷ 63 ∷ 247 ∷ 204 ∷ 52 ∷ 165 ∷ 229 ∷ 241 ∷ 113 ∷ 216 ∷ 49 ∷ 21
    ∷ 4 ∷ 199 ∷ 35 ∷ 195 ∷ 24 ∷ 150 ∷ 5 ∷ 154 ∷ 7 ∷ 18 ∷ 128 ∷ 226 ∷ 235 ∷ 39 ∷ 178 ∷ 117
    ∷ 9 ∷ 131 ∷ 44 ∷ 26 ∷ 27 ∷ 110 ∷ 90 ∷ 160 ∷ 82 ∷ 59 ∷ 214 ∷ 179 ∷ 41 ∷ 227 ∷ 47 ∷ 132
    ∷ 83 ∷ 209 ∷ 0 ∷ 237 ∷ 32 ∷ 252 ∷ 177 ∷ 91 ∷ 106 ∷ 203 ∷ 190 ∷ 57 ∷ 74 ∷ 76 ∷ 88 ∷ 207
    ∷ 208 ∷ 239 ∷ 170 ∷ 251 ∷ 67 ∷ 77 ∷ 51 ∷ 133 ∷ 69 ∷ 249 ∷ 2 ∷ 127 ∷ 80 ∷ 60 ∷ 159 ∷ 168
    ∷ 81 ∷ 163 ∷ 64 ∷ 143 ∷ 146 ∷ 157 ∷ 56 ∷ 245 ∷ 188 ∷ 182 ∷ 218 ∷ 33 ∷ 16 ∷ 255 ∷ 243 ∷ 210
    ∷ 205 ∷ 12 ∷ 19 ∷ 236 ∷ 95 ∷ 151 ∷ 68 ∷ 23 ∷ 196 ∷ 167 ∷ 126 ∷ 61 ∷ 100 ∷ 93 ∷ 25 ∷ 115
    ∷ 96 ∷ 129 ∷ 79 ∷ 220 ∷ 34 ∷ 42 ∷ 144 ∷ 136 ∷ 70 ∷ 238 ∷ 184 ∷ 20 ∷ 222 ∷ 94 ∷ 11 ∷ 219
    ∷ 224 ∷ 50 ∷ 58 ∷ 10 ∷ 73 ∷ 6 ∷ 36 ∷ 92 ∷ 194 ∷ 211 ∷ 172 ∷ 98 ∷ 145 ∷ 149 ∷ 228 ∷ 121
    ∷ 231 ∷ 200 ∷ 55 ∷ 109 ∷ 141 ∷ 213 ∷ 78 ∷ 169 ∷ 108 ∷ 86 ∷ 244 ∷ 234 ∷ 101 ∷ 122 ∷ 174 ∷ 8
    ∷ 186 ∷ 120 ∷ 37 ∷ 46 ∷ 28 ∷ 166 ∷ 180 ∷ 198 ∷ 232 ∷ 221 ∷ 116 ∷ 31 ∷ 75 ∷ 189 ∷ 139 ∷ 138
    ∷ 112 ∷ 62 ∷ 181 ∷ 102 ∷ 72 ∷ 3 ∷ 246 ∷ 14 ∷ 97 ∷ 53 ∷ 87 ∷ 185 ∷ 134 ∷ 193 ∷ 29 ∷ 158
    ∷ 225 ∷ 248 ∷ 152 ∷ 17 ∷ 105 ∷ 217 ∷ 142 ∷ 148 ∷ 155 ∷ 30 ∷ 135 ∷ 233 ∷ 206 ∷ 85 ∷ 40 ∷ 223
    ∷ 140 ∷ 161 ∷ 137 ∷ 13 ∷ 191 ∷ 230 ∷ 66 ∷ 104 ∷ 65 ∷ 153 ∷ 45 ∷ 15 ∷ 176 ∷ 84 ∷ 187 ∷ 22 ∷ []

abbrev pub INVERSE_S_BOX : List ℕ
INVERSE_S_BOX =
    82 ∷ 9 ∷ 106 ∷ 213 ∷ 48 ∷ 54 ∷ 165 ∷ 56 ∷ 191 ∷ 64 ∷ 163 ∷ 158 ∷ 129 ∷ 243 ∷ 215 ∷ 251
    ∷ 124 ∷ 227 ∷ 57 ∷ 130 ∷ 155 ∷ 47 ∷ 255 ∷ 135 ∷ 52 ∷ 142 ∷ 67 ∷ 68 ∷ 196 ∷ 222 ∷ 233 ∷ 203
    ∷ 84 ∷ 123 ∷ 148 ∷ 50 ∷ 166 ∷ 194 ∷ 35 ∷ 61 ∷ 238 ∷ 76 ∷ 149 ∷ 11 ∷ 66 ∷ 250 ∷ 195 ∷ 78
    ∷ 8 ∷ 46 ∷ 161 ∷ 102 ∷ 40 ∷ 217 ∷ 36 ∷ 178 ∷ 118 ∷ 91 ∷ 162 ∷ 73 ∷ 109 ∷ 139 ∷ 209 ∷ 37
    ∷ 114 ∷ 248 ∷ 246 ∷ 100 ∷ 134 ∷ 104 ∷ 152 ∷ 22 ∷ 212 ∷ 164 ∷ 92 ∷ 204 ∷ 93 ∷ 101 ∷ 182 ∷ 146
    ∷ 108 ∷ 112 ∷ 72 ∷ 80 ∷ 253 ∷ 237 ∷ 185 ∷ 218 ∷ 94 ∷ 21 ∷ 70 ∷ 87 ∷ 167 ∷ 141 ∷ 157 ∷ 132
    ∷ 144 ∷ 216 ∷ 171 ∷ 0 ∷ 140 ∷ 188 ∷ 211 ∷ 10 ∷ 247 ∷ 228 ∷ 88 ∷ 5 ∷ 184 ∷ 179 ∷ 69 ∷ 6
    ∷ 208 ∷ 44 ∷ 30 ∷ 143 ∷ 202 ∷ 63 ∷ 15 ∷ 2 ∷ 193 ∷ 175 ∷ 189 ∷ 3 ∷ 1 ∷ 19 ∷ 138 ∷ 107
    ∷ 58 ∷ 145 ∷ 17 ∷ 65 ∷ 79 ∷ 103 ∷ 220 ∷ 234 ∷ 151 ∷ 242 ∷ 207 ∷ 206 ∷ 240 ∷ 180 ∷ 230 ∷ 115
    ∷ 150 ∷ 172 ∷ 116 ∷ 34 ∷ 231 ∷ 173 ∷ 53 ∷ 133 ∷ 226 ∷ 249 ∷ 55 ∷ 232 ∷ 28 ∷ 117 ∷ 223 ∷ 110
    ∷ 71 ∷ 241 ∷ 26 ∷ 113 ∷ 29 ∷ 41 ∷ 197 ∷ 137 ∷ 111 ∷ 183 ∷ 98 ∷ 14 ∷ 170 ∷ 24 ∷ 190 ∷ 27
    ∷ 252 ∷ 86 ∷ 62 ∷ 75 ∷ 198 ∷ 210 ∷ 121 ∷ 32 ∷ 154 ∷ 219 ∷ 192 ∷ 254 ∷ 120 ∷ 205 ∷ 90 ∷ 244
    ∷ 31 ∷ 221 ∷ 168 ∷ 51 ∷ 136 ∷ 7 ∷ 199 ∷ 49 ∷ 177 ∷ 18 ∷ 16 ∷ 89 ∷ 39 ∷ 128 ∷ 236 ∷ 95
    ∷ 96 ∷ 81 ∷ 127 ∷ 169 ∷ 25 ∷ 181 ∷ 74 ∷ 13 ∷ 45 ∷ 229 ∷ 122 ∷ 159 ∷ 147 ∷ 201 ∷ 156 ∷ 239
    ∷ 160 ∷ 224 ∷ 59 ∷ 77 ∷ 174 ∷ 42 ∷ 245 ∷ 176 ∷ 200 ∷ 235 ∷ 187 ∷ 60 ∷ 131 ∷ 83 ∷ 153 ∷ 97
    ∷ 23 ∷ 43 ∷ 4 ∷ 126 ∷ 186 ∷ 119 ∷ 214 ∷ 38 ∷ 225 ∷ 105 ∷ 20 ∷ 99 ∷ 85 ∷ 33 ∷ 12 ∷ 125 ∷ []

-- ---- inverses, read from the table: what the affine map takes to its entry

abbrev unaffine : ℕ → ℕ
unaffine b = from_bits (inverse_affine_bit b) 8

abbrev inverse_of : ℕ → ℕ
inverse_of x = unaffine (slice_index S_BOX x)

-- the product by y undoes the one by x, on the powers of x
abbrev undoes : ℕ → ℕ → Bool
undoes x y = same_below (λ i. times y (times x (2 ^ i))) (λ i. 2 ^ i) 8

-- y is an octet, and an inverse of x
abbrev inverts : ℕ → ℕ → Bool
inverts x y = nat_lt y 256 && (times x y == 1) && undoes x y

inverse_table : all_below (λ n. inverts (suc n) (inverse_of (suc n))) 255 ≡ true
unfolding times
inverse_table = refl

undone : (x y : ℕ) → undoes x y ≡ true → (z : ℕ) → z < 256 → times y (times x z) ≡ z
undone x y test = same_octets (λ z. times y (times x z)) (λ z. z) (additive_after (times y) (times x) (additive_times y) (additive_times x)) additive_one test

-- there is no other
inverse_alone : (x y : ℕ) → y < 256 → times x y ≡ 1 → undoes x y ≡ true → (z : ℕ) → z < 256 → times x z ≡ 1 → z ≡ y
inverse_alone x y low one test z small same =
    sym (undone x y test z small) ∙ ap (times y) (same ∙ sym one) ∙ undone x y test y low

inverse_found : (x y n : ℕ) → n ≤ 256 → y < n → times x y ≡ 1 → ((z : ℕ) → z < 256 → times x z ≡ 1 → z ≡ y) → inverse_below x n ≡ y
inverse_found x y zero small low one alone = absurd (omega arith)
inverse_found x y (suc n) small low one alone =
    elim (cases_Bool (times x n == 1)) [
      | inl found ↦ rw (found, inverse_below) (alone n (omega arith) (eqb-true (times x n) 1 found))
      | inr other ↦
          rw (other, inverse_below) (elim (cases_lt y n) [
            | inl below ↦ inverse_found x y n (omega arith) below one alone
            | inr top ↦
                let e : y ≡ n = omega arith in
                absurd (eqb-false (times x n) 1 other (ap (times x) (sym e) ∙ one))
          ])
    ]

inverse_zero : inverse 0 ≡ inverse_of 0
unfolding times inverse
inverse_zero = refl

inverse_is : (x : ℕ) → x < 256 → inverse x ≡ inverse_of x
unfolding inverse
inverse_is zero h = inverse_zero
inverse_is (suc n) h =
    let test = all_below_at (λ m. inverts (suc m) (inverse_of (suc m))) 255 n inverse_table (omega arith) in
    let y = inverse_of (suc n) in
    let parts = and_parts (nat_lt y 256 && (times (suc n) y == 1)) (undoes (suc n) y) test in
    let two = and_parts (nat_lt y 256) (times (suc n) y == 1) parts.0 in
    let low : y < 256 = ltb-true y 256 two.0 in
    let one : times (suc n) y ≡ 1 = eqb-true (times (suc n) y) 1 two.1 in
    inverse_found (suc n) y 256 (omega arith) low one (inverse_alone (suc n) y low one parts.1)

-- ---- the entries

s_box_table : same_below (λ x. affine (inverse_of x)) (slice_index S_BOX) 256 ≡ true
s_box_table = refl

pub s_box_entry : (x : ℕ) → x < 256 → slice_index S_BOX x ≡ s_box x
unfolding s_box
s_box_entry x h = sym (ap affine (inverse_is x h) ∙ same_below_at (λ y. affine (inverse_of y)) (slice_index S_BOX) 256 x s_box_table h)

unaffine_table : all_below (λ x. nat_lt (unaffine x) 256) 256 ≡ true
unaffine_table = refl

inverse_s_box_table : same_below (λ x. inverse_of (unaffine x)) (slice_index INVERSE_S_BOX) 256 ≡ true
inverse_s_box_table = refl

pub inverse_s_box_entry : (x : ℕ) → x < 256 → slice_index INVERSE_S_BOX x ≡ inverse_s_box x
unfolding inverse_s_box
inverse_s_box_entry x h =
    let low : unaffine x < 256 = ltb-true (unaffine x) 256 (all_below_at (λ y. nat_lt (unaffine y) 256) 256 x unaffine_table h) in
    sym (inverse_is (unaffine x) low ∙ same_below_at (λ y. inverse_of (unaffine y)) (slice_index INVERSE_S_BOX) 256 x inverse_s_box_table h)

tables_undo : same_below (λ x. slice_index INVERSE_S_BOX (slice_index S_BOX x)) (λ x. x) 256 ≡ true
tables_undo = refl

tables_undo_back : same_below (λ x. slice_index S_BOX (slice_index INVERSE_S_BOX x)) (λ x. x) 256 ≡ true
tables_undo_back = refl

octets_table : all_below (λ x. nat_lt (slice_index S_BOX x) 256 && nat_lt (slice_index INVERSE_S_BOX x) 256) 256 ≡ true
octets_table = refl

pub s_box_octet : (x : ℕ) → x < 256 → s_box x < 256
s_box_octet x h =
    let both = and_parts (nat_lt (slice_index S_BOX x) 256) (nat_lt (slice_index INVERSE_S_BOX x) 256) (all_below_at (λ y. nat_lt (slice_index S_BOX y) 256 && nat_lt (slice_index INVERSE_S_BOX y) 256) 256 x octets_table h) in
    rw (← s_box_entry x h) (ltb-true (slice_index S_BOX x) 256 both.0)

pub inverse_s_box_octet : (x : ℕ) → x < 256 → inverse_s_box x < 256
inverse_s_box_octet x h =
    let both = and_parts (nat_lt (slice_index S_BOX x) 256) (nat_lt (slice_index INVERSE_S_BOX x) 256) (all_below_at (λ y. nat_lt (slice_index S_BOX y) 256 && nat_lt (slice_index INVERSE_S_BOX y) 256) 256 x octets_table h) in
    rw (← inverse_s_box_entry x h) (ltb-true (slice_index INVERSE_S_BOX x) 256 both.1)

pub inverse_s_box_undoes : (x : ℕ) → x < 256 → inverse_s_box (s_box x) ≡ x
inverse_s_box_undoes x h =
    sym (inverse_s_box_entry (s_box x) (s_box_octet x h)) ∙ ap (slice_index INVERSE_S_BOX) (sym (s_box_entry x h))
    ∙ same_below_at (λ y. slice_index INVERSE_S_BOX (slice_index S_BOX y)) (λ y. y) 256 x tables_undo h

pub s_box_undoes : (x : ℕ) → x < 256 → s_box (inverse_s_box x) ≡ x
s_box_undoes x h =
    sym (s_box_entry (inverse_s_box x) (inverse_s_box_octet x h)) ∙ ap (slice_index S_BOX) (sym (inverse_s_box_entry x h))
    ∙ same_below_at (λ y. slice_index S_BOX (slice_index INVERSE_S_BOX y)) (λ y. y) 256 x tables_undo_back h
