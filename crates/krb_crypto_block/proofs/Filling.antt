-- Padding with zeros to whole blocks.
use Rattle.std.proofs.Common.{◌≡◌, ℕ, ◌+◌, ◌-◌, ◌*◌, ◌/◌, ◌%◌, ◌<◌, ◌≤◌, List, ◌++◌, length, take, drop, replicate, refl, sym, ap, subst, ◌∙◌, arith, inl, inr, add-zero, append_assoc}
use Rattle.std.proofs.lemmas.Bool.{cases_lt}
use Rattle.std.proofs.lemmas.List.{append-nil, length-append, length-replicate, take_at, drop_at}
use Rattle.std.proofs.Math.Arith.{digits_mod}
use Rattle.std.proofs.Math.Nat.{div-add-mod', mul-add-mod_self_right}
use Rattle.krb_crypto_block.specs.Modes.{IsOctets, IsPadding}
use Rattle.krb_crypto_block.proofs.Below.{AreBelow-append, AreBelow-take, AreBelow-zeros}

module _ (size : ℕ) where
  blocks : (n : ℕ) → n % size ≡ 0 → n ≡ n / size * size
  blocks n whole = sym (div-add-mod' n size) ∙ ap (λ (k : ℕ). n / size * size + k) whole ∙ add-zero (n / size * size)

  -- past whole blocks the rest is that of what follows
  rest_of : (n r : ℕ) → n % size ≡ 0 → (n + r) % size ≡ r % size
  rest_of n r whole = ap (λ (k : ℕ). (k + r) % size) (blocks n whole) ∙ mul-add-mod_self_right (n / size) size r

  few_rest : (r : ℕ) → r < size → r % size ≡ r
  few_rest r few = let sum : r ≡ 0 * size + r = omega arith in ap (λ (k : ℕ). k % size) sum ∙ digits_mod 0 few

  same_or_more : (n x y : ℕ) → x ≤ y → y < size → (n + x) % size ≡ 0 → (n + y) % size ≡ 0 → x ≡ y
  same_or_more n x y le few hx hy =
      let sum : n + y ≡ n + x + (y - x) = omega arith in
      let none : y - x ≡ 0 = sym (few_rest (y - x) (omega arith)) ∙ sym (rest_of (n + x) (y - x) hx) ∙ ap (λ (k : ℕ). k % size) (sym sum) ∙ hy in
      omega (arith, none, le)

  same_count : (n x y : ℕ) → x < size → y < size → (n + x) % size ≡ 0 → (n + y) % size ≡ 0 → x ≡ y
  same_count n x y fx fy hx hy = elim (cases_lt x y) [
    | inl low ↦ same_or_more n x y (omega arith) fy hx hy
    | inr high ↦ sym (same_or_more n y x high fx hy hx)
  ]

  padding_length : (p w : List ℕ) (padding : IsPadding size p w) → length w ≡ length p + padding.zeros
  padding_length p w padding = ap length padding.concatenated ∙ length-append p (replicate padding.zeros 0) ∙ ap (λ (k : ℕ). length p + k) (length-replicate padding.zeros 0)

  -- there is one padded form
  pub IsPadding-one : (p v w : List ℕ) → IsPadding size p v → IsPadding size p w → v ≡ w
  IsPadding-one p v w a b =
      let hv : (length p + a.zeros) % size ≡ 0 = ap (λ (k : ℕ). k % size) (sym (padding_length p v a)) ∙ a.whole in
      let hw : (length p + b.zeros) % size ≡ 0 = ap (λ (k : ℕ). k % size) (sym (padding_length p w b)) ∙ b.whole in
      a.concatenated ∙ ap (λ (k : ℕ). p ++ replicate k 0) (same_count (length p) a.zeros b.zeros a.fewer b.fewer hv hw) ∙ sym b.concatenated

  -- whole blocks are their own
  pub IsPadding-whole : 0 < size → (p : List ℕ) → length p % size ≡ 0 → IsPadding size p p
  IsPadding-whole some p whole = record { zeros = 0; fewer = some; concatenated = sym (append-nil p); whole = whole }

  -- whole blocks before change nothing
  pub IsPadding-trailing : (c q w : List ℕ) → length c % size ≡ 0 → IsPadding size (c ++ q) w → IsPadding size q (drop (length c) w)
  IsPadding-trailing c q w prefix padding =
      let parts : w ≡ c ++ (q ++ replicate padding.zeros 0) = padding.concatenated ∙ append_assoc c q (replicate padding.zeros 0) in
      let back : drop (length c) w ≡ q ++ replicate padding.zeros 0 = ap (drop (length c)) parts ∙ drop_at c (q ++ replicate padding.zeros 0) (length c) refl in
      let len : length w ≡ length c + length (q ++ replicate padding.zeros 0) = ap length parts ∙ length-append c (q ++ replicate padding.zeros 0) in
      record {
        zeros = padding.zeros;
        fewer = padding.fewer;
        concatenated = back;
        whole = ap (λ (k : List ℕ). length k % size) back ∙ sym (rest_of (length c) (length (q ++ replicate padding.zeros 0)) prefix) ∙ ap (λ (k : ℕ). k % size) (sym len) ∙ padding.whole;
      }

  pub IsPadding-before : (c q w : List ℕ) → length c % size ≡ 0 → IsPadding size q w → IsPadding size (c ++ q) (c ++ w)
  IsPadding-before c q w prefix padding = record {
    zeros = padding.zeros;
    fewer = padding.fewer;
    concatenated = ap (λ (k : List ℕ). c ++ k) padding.concatenated ∙ sym (append_assoc c q (replicate padding.zeros 0));
    whole = ap (λ (k : ℕ). k % size) (length-append c w) ∙ rest_of (length c) (length w) prefix ∙ padding.whole;
  }

  -- both are of octets, or none is
  pub IsPadding-octets : (p w : List ℕ) → IsPadding size p w → IsOctets p → IsOctets w
  IsPadding-octets p w padding octets = subst IsOctets (sym padding.concatenated) (AreBelow-append p (replicate padding.zeros 0) octets (AreBelow-zeros padding.zeros (omega arith)))

  pub IsPadding-prefix : (p w : List ℕ) → IsPadding size p w → IsOctets w → IsOctets p
  IsPadding-prefix p w padding octets = subst IsOctets (ap (take (length p)) padding.concatenated ∙ take_at p (replicate padding.zeros 0) (length p) refl) (AreBelow-take (length p) w octets)

  -- after whole blocks of w the rest is of whole blocks
  pub rest_whole : (n : ℕ) (w : List ℕ) → n % size ≡ 0 → n ≤ length w → length w % size ≡ 0 → (length w - n) % size ≡ 0
  rest_whole n w prefix long whole =
      let sum : length w ≡ n + (length w - n) = omega arith in
      sym (rest_of n (length w - n) prefix) ∙ ap (λ (k : ℕ). k % size) (sym sum) ∙ whole
