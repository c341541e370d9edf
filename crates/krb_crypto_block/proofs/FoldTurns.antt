-- The octets of a number that is turned.
use Rattle.std.proofs.Common.{◌≡◌, ℕ, zero, suc, ◌+◌, ◌-◌, ◌*◌, ◌/◌, ◌%◌, ◌^◌, ◌<◌, List, length, get_or, refl, sym, ap, subst, ◌∙◌, arith, add-one, add-zero, inl, inr}
use Rattle.std.proofs.Math.Arith.{digits_lt, digits_mod, digits_div}
use Rattle.std.proofs.Math.Pow.{field, mod-mod-pow, mod-pow-add}
use Rattle.std.proofs.Math.Nat.{add-mul-div_right, div-add-mod', div-div-eq-div-mul, mod-lt, mul_comm, mod-eq_of_lt, mod-eq-sub-mod, zero-mul, div-one, add-suc}
use Rattle.std.proofs.lemmas.Nat.{pow-add, pow_pos, shr-shr, shr_below}
use Rattle.std.proofs.lemmas.Bool.{cases_lt}
use Rattle.krb_crypto_block.specs.Modes.{IsOctets}
use Rattle.krb_crypto_block.specs.Fold.{number, turned, rot, concatenated}
use Rattle.krb_crypto_block.proofs.FoldWorth.{worth, worth-zero, worth-suc, worth-add, worth_pos, worth_pow, number_lt, octet_of, octet-high}

-- x twice in a row, shifted
pub turned_twice : (x d r : ℕ) → (x * 2 ^ (d + r) + x) / 2 ^ r ≡ x / 2 ^ r * 2 ^ (d + r) + ((x % 2 ^ r) * 2 ^ d + x / 2 ^ r)
turned_twice x d r =
    let pos : 0 < 2 ^ r = pow_pos r in
    let parts : x / 2 ^ r * 2 ^ r + x % 2 ^ r ≡ x = div-add-mod' x (2 ^ r) in
    let e : x * 2 ^ (d + r) + x ≡ x + (x * 2 ^ d) * 2 ^ r = rw (pow-add 2 d r) (omega arith) in
    let split : x * 2 ^ d ≡ x / 2 ^ r * 2 ^ (d + r) + (x % 2 ^ r) * 2 ^ d = rw (pow-add 2 d r) (omega (arith, ap (λ (k : ℕ). k * 2 ^ d) parts)) in
    rw (e, add-mul-div_right x (x * 2 ^ d) pos) (omega (arith, split))

turned_lt : (x d r : ℕ) → x < 2 ^ (d + r) → (x % 2 ^ r) * 2 ^ d + x / 2 ^ r < 2 ^ (d + r)
turned_lt x d r h =
    let pos : 0 < 2 ^ r = pow_pos r in
    let high : x % 2 ^ r < 2 ^ r = mod-lt x pos in
    let low : x / 2 ^ r < 2 ^ d = shr_below x d r h in
    let e : 2 ^ (d + r) ≡ 2 ^ r * 2 ^ d = rw (pow-add 2 d r) (mul_comm (2 ^ d) (2 ^ r)) in
    rw e (digits_lt high low)

pub rot_lt : (x k j : ℕ) → 0 < k → x < 2 ^ k → rot x k j < 2 ^ k
rot_lt x k j pos h =
    let r : 13 * j % k < k = mod-lt (13 * j) pos in
    let at : k ≡ (k - 13 * j % k) + 13 * j % k = omega arith in
    let lt : x < 2 ^ ((k - 13 * j % k) + 13 * j % k) = subst (λ (i : ℕ). x < 2 ^ i) at h in
    subst (λ (i : ℕ). rot x k j < 2 ^ i) (sym at) (turned_lt x (k - 13 * j % k) (13 * j % k) lt)

-- an octet of a turned number is an octet of the number written twice, shifted
pub turned_octet : (x n r e : ℕ) → r < 8 * n → e < n → turned x (8 * n) r / worth e % 256 ≡ (x * worth n + x) / 2 ^ (r + 8 * e) % 256
turned_octet x n r e hr he =
    let at : 8 * n ≡ (8 * n - r) + r = omega arith in
    let twice : (x * 2 ^ (8 * n) + x) / 2 ^ r ≡ x / 2 ^ r * 2 ^ (8 * n) + turned x (8 * n) r =
    subst (λ (i : ℕ). (x * 2 ^ i + x) / 2 ^ r ≡ x / 2 ^ r * 2 ^ i + turned x (8 * n) r) (sym at) (turned_twice x (8 * n - r) r) in
    let whole : (x * worth n + x) / 2 ^ r ≡ x / 2 ^ r * worth n + turned x (8 * n) r = rw (worth_pow n) twice in
    let high : (x / 2 ^ r * worth n + turned x (8 * n) r) / worth e % 256 ≡ turned x (8 * n) r / worth e % 256 = octet-high (x / 2 ^ r) n e (turned x (8 * n) r) he in
    let shifted : (x * worth n + x) / 2 ^ r / worth e ≡ (x * worth n + x) / 2 ^ (r + 8 * e) = rw (worth_pow e) (shr-shr (x * worth n + x) r (8 * e)) in
    sym high ∙ ap (λ (i : ℕ). i / worth e % 256) (sym whole) ∙ ap (λ (i : ℕ). i % 256) shifted

-- eight bits that lie across two octets
pub across : (y o : ℕ) → o < 8 → y / 2 ^ o % 256 ≡ (y / 256 % 256 * 256 + y % 256) / 2 ^ o % 256
across y o h =
    let both : y % 65536 ≡ y / 256 % 256 * 256 + y % 256 = mod-pow-add y 8 8 in
    let w : (8 - o) + (8 + o) ≡ 16 = omega arith in
    let cut : y % 2 ^ ((8 - o) + (8 + o)) % 2 ^ (8 + o) ≡ y % 2 ^ (8 + o) = mod-mod-pow y (8 - o) (8 + o) in
    let cut16 : y % 65536 % 2 ^ (8 + o) ≡ y % 2 ^ (8 + o) = subst (λ (i : ℕ). y % 2 ^ i % 2 ^ (8 + o) ≡ y % 2 ^ (8 + o)) w cut in
    sym (field y 8 o) ∙ ap (λ (i : ℕ). i / 2 ^ o) (sym cut16) ∙ field (y % 65536) 8 o ∙ ap (λ (i : ℕ). i / 2 ^ o % 256) both

-- an octet of the octets written twice
twice_octet : (xs : List ℕ) (t n : ℕ) → IsOctets xs → n ≡ length xs → t < 2 * n → (number xs * worth n + number xs) / worth t % 256 ≡ get_or xs (n - 1 - t % n) 0
twice_octet xs t n h en lt = elim (cases_lt t n) [
  | inl low ↦
      let e : t % n ≡ t = mod-eq_of_lt low in
      rw (octet-high (number xs) n t (number xs) low, e) (octet_of xs (n - 1 - t) t h (omega arith))
  | inr ge ↦
      let d : t - n < n = omega arith in
      let et : t ≡ n + (t - n) = omega arith in
      let small : number xs < worth n = rw en (number_lt xs h) in
      let e : t % n ≡ t - n = mod-eq-sub-mod ge ∙ mod-eq_of_lt d in
      let w : worth t ≡ worth n * worth (t - n) = ap worth et ∙ worth-add n (t - n) in
      let shift : (number xs * worth n + number xs) / worth t ≡ number xs / worth (t - n) =
      rw w (sym (div-div-eq-div-mul (number xs * worth n + number xs) (worth n) (worth (t - n))) ∙ ap (λ (i : ℕ). i / worth (t - n)) (digits_div (number xs) small)) in
      rw (shift, e) (octet_of xs (n - 1 - (t - n)) (t - n) h (omega arith))
]

turn_parts : (j n : ℕ) → 0 < n → 13 * j % (8 * n) ≡ 8 * ((j + 5 * j / 8) % n) + 5 * j % 8
turn_parts j n pos =
    let a : ℕ = j + 5 * j / 8 in
    let lt : a % n < n = mod-lt a pos in
    let small : 8 * (a % n) + 5 * j % 8 < 8 * n = omega arith in
    let e : 13 * j ≡ a / n * (8 * n) + (8 * (a % n) + 5 * j % 8) = omega (arith, div-add-mod' a n) in
    ap (λ (k : ℕ). k % (8 * n)) e ∙ digits_mod (a / n) small

-- octet e from the right of turn j, from the octets
pub rot_octet : (xs : List ℕ) (j e a n : ℕ) → IsOctets xs → n ≡ length xs → e < n → a ≡ (j + 5 * j / 8) % n + e
    → rot (number xs) (8 * n) j / worth e % 256 ≡ (get_or xs (n - 1 - (a + 1) % n) 0 * 256 + get_or xs (n - 1 - a % n) 0) / 2 ^ (5 * j % 8) % 256
rot_octet xs j e a n h en he ea =
    let pos : 0 < n = omega arith in
    let q : (j + 5 * j / 8) % n < n = mod-lt (j + 5 * j / 8) pos in
    let within : 5 * j % 8 < 8 = omega arith in
    let parts : 13 * j % (8 * n) ≡ 8 * ((j + 5 * j / 8) % n) + 5 * j % 8 = turn_parts j n pos in
    let r : 13 * j % (8 * n) < 8 * n = mod-lt (13 * j) (omega arith) in
    let x : ℕ = number xs * worth n + number xs in
    let first : rot (number xs) (8 * n) j / worth e % 256 ≡ x / 2 ^ (13 * j % (8 * n) + 8 * e) % 256 = turned_octet (number xs) n (13 * j % (8 * n)) e r he in
    let place : 13 * j % (8 * n) + 8 * e ≡ 8 * a + 5 * j % 8 = omega arith in
    let shifted : x / 2 ^ (13 * j % (8 * n) + 8 * e) ≡ x / worth a / 2 ^ (5 * j % 8) = ap (λ (i : ℕ). x / 2 ^ i) place ∙ rw (worth_pow a) (sym (shr-shr x (8 * a) (5 * j % 8))) in
    let above : x / worth a / 256 ≡ x / worth (a + 1) = rw (add-one, worth-suc) (div-div-eq-div-mul x (worth a) 256) in
    let low : x / worth a % 256 ≡ get_or xs (n - 1 - a % n) 0 = twice_octet xs a n h en (omega arith) in
    let high : x / worth (a + 1) % 256 ≡ get_or xs (n - 1 - (a + 1) % n) 0 = twice_octet xs (a + 1) n h en (omega arith) in
    let joint : x / worth a / 2 ^ (5 * j % 8) % 256 ≡ (x / worth a / 256 % 256 * 256 + x / worth a % 256) / 2 ^ (5 * j % 8) % 256 = across (x / worth a) (5 * j % 8) within in
    first ∙ ap (λ (i : ℕ). i % 256) shifted ∙ joint ∙ ap (λ (i : ℕ). (i % 256 * 256 + x / worth a % 256) / 2 ^ (5 * j % 8) % 256) above
    ∙ ap (λ (i : ℕ). (i * 256 + x / worth a % 256) / 2 ^ (5 * j % 8) % 256) high ∙ ap (λ (i : ℕ). (get_or xs (n - 1 - (a + 1) % n) 0 * 256 + i) / 2 ^ (5 * j % 8) % 256) low

-- ---- the turns concatenated
pub concatenated-suc : (x k c : ℕ) → concatenated x k (suc c) ≡ concatenated x k c * 2 ^ k + rot x k c
unfolding concatenated
concatenated-suc x k c = refl

pub concatenated-zero : (x k : ℕ) → concatenated x k 0 ≡ 0
unfolding concatenated
concatenated-zero x k = refl

pub concatenated_lt : (x n c : ℕ) → 0 < n → x < worth n → concatenated x (8 * n) c < worth (c * n)
concatenated_lt x n zero pos h = rw (concatenated-zero, zero-mul) (worth_pos 0)
concatenated_lt x n (suc c) pos h =
    let e : suc c * n ≡ c * n + n = omega arith in
    let one : rot x (8 * n) c < worth n = rw (worth_pow n) (rot_lt x (8 * n) c (omega arith) (rw worth_pow at h)) in
    rw (concatenated-suc, e, worth-add, ← worth_pow) (digits_lt (concatenated_lt x n c pos h) one)

concatenated_shift : (x n i m : ℕ) → 0 < n → x < worth n → concatenated x (8 * n) (i + m) / worth (m * n) ≡ concatenated x (8 * n) i
concatenated_shift x n i zero pos h = rw (add-zero, zero-mul, worth-zero) (div-one (concatenated x (8 * n) i))
concatenated_shift x n i (suc m) pos h =
    let e : suc m * n ≡ n + m * n = omega arith in
    let one : rot x (8 * n) (i + m) < worth n = rw (worth_pow n) (rot_lt x (8 * n) (i + m) (omega arith) (rw worth_pow at h)) in
    let w : worth (suc m * n) ≡ worth n * worth (m * n) = ap worth e ∙ worth-add n (m * n) in
    let top : concatenated x (8 * n) (i + suc m) ≡ concatenated x (8 * n) (i + m) * worth n + rot x (8 * n) (i + m) = rw (add-suc, concatenated-suc, worth_pow) refl in
    rw (w, top) (sym (div-div-eq-div-mul (concatenated x (8 * n) (i + m) * worth n + rot x (8 * n) (i + m)) (worth n) (worth (m * n)))
    ∙ ap (λ (k : ℕ). k / worth (m * n)) (digits_div (concatenated x (8 * n) (i + m)) one) ∙ concatenated_shift x n i m pos h)

-- an octet of the turns concatenated is one of a turn
pub concatenated_octet : (x n i m e : ℕ) → 0 < n → x < worth n → e < n → concatenated x (8 * n) (suc i + m) / worth (m * n + e) % 256 ≡ rot x (8 * n) i / worth e % 256
concatenated_octet x n i m e pos h he =
    let j : ℕ = concatenated x (8 * n) (suc i + m) in
    let w : worth (m * n + e) ≡ worth (m * n) * worth e = worth-add (m * n) e in
    let down : j / worth (m * n + e) ≡ concatenated x (8 * n) (suc i) / worth e =
    rw w (sym (div-div-eq-div-mul j (worth (m * n)) (worth e)) ∙ ap (λ (k : ℕ). k / worth e) (concatenated_shift x n (suc i) m pos h)) in
    let top : concatenated x (8 * n) (suc i) ≡ concatenated x (8 * n) i * worth n + rot x (8 * n) i = rw (concatenated-suc, worth_pow) refl in
    ap (λ (k : ℕ). k % 256) down ∙ ap (λ (k : ℕ). k / worth e % 256) top ∙ octet-high (concatenated x (8 * n) i) n e (rot x (8 * n) i) he
