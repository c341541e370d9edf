-- The slots of a window.
use Rattle.std.proofs.Common.{◌≡◌, ◌≢◌, ℕ, ◌+◌, ◌*◌, ◌/◌, ◌%◌, ◌<◌, ◌⊎◌, inl, inr, true, false, Option, None, Some, List, length, replicate, slice_set, refl, sym, ◌∙◌, ap, subst, arith, lit<, nat_eq}
use Rattle.std.proofs.lemmas.Bool.{eqb-true, eq-eqb}
use Rattle.std.proofs.lemmas.Bool.Decides.{eqb_tells}
use Rattle.std.proofs.lemmas.Grind.{get_or-set_at}
use Rattle.std.proofs.lemmas.List.{get_or-replicate, get_or-set_other, get_or-set_same}
use Rattle.std.proofs.lemmas.Nat.{mod_below}
use Rattle.std.proofs.Math.Nat.{div-add-mod}
use Rattle.krb_gss_per_message.specs.Sequence.{has_in, is_number}

rest_below : (n : ℕ) → n % 64 < 64
rest_below n = mod_below n 64 (lit< tt)

-- none is known to be taken
pub empty_slots : (n : ℕ) → has_in (replicate 64 None) n ≡ false
empty_slots n = ap (λ slot. is_number slot n) (get_or-replicate 64 (n % 64) None None (rest_below n))

-- numbers less than 64 apart have other rests
rests_differ : (m n q p r s : ℕ) → 64 * q + r ≡ m → 64 * p + s ≡ n → m < n + 64 → n < m + 64 → m ≢ n → r < 64 → s < 64 → r ≢ s
rests_differ m n q p r s e f below above differ small tiny same = omega (arith, e, f, below, above, differ, same, small, tiny)

pub rests : (m n : ℕ) → m < n + 64 → n < m + 64 → m ≢ n → m % 64 ≢ n % 64
rests m n below above differ =
    rests_differ m n (m / 64) (n / 64) (m % 64) (n % 64) (div-add-mod m 64) (div-add-mod n 64) below above differ (rest_below m) (rest_below n)

-- what is marked is this number
marked_same : (slots : List (Option ℕ)) (n : ℕ) → length slots ≡ 64 → has_in (slice_set slots (n % 64) (Some n)) n ≡ true
marked_same slots n size =
    ap (λ slot. is_number slot n) (get_or-set_same slots (n % 64) (Some n) None (omega (arith, size, rest_below n))) ∙ eq-eqb n n refl

-- a number with another rest is as it was
marked_other : (slots : List (Option ℕ)) (n m : ℕ) → m % 64 ≢ n % 64 → has_in (slice_set slots (n % 64) (Some n)) m ≡ has_in slots m
marked_other slots n m differ = ap (λ slot. is_number slot m) (get_or-set_other slots (n % 64) (m % 64) (Some n) None differ)

-- at the rest of this number no other is
marked_there : (slots : List (Option ℕ)) (n m : ℕ) → length slots ≡ 64 → m % 64 ≡ n % 64 → has_in (slice_set slots (n % 64) (Some n)) m ≡ nat_eq n m
marked_there slots n m size same =
    ap (λ slot. is_number slot m) (get_or-set_at slots (n % 64) (m % 64) (Some n) None same (omega (arith, size, rest_below n)))

-- what is marked was there before, or is this number
pub marked_only : (slots : List (Option ℕ)) (n m : ℕ) → length slots ≡ 64 → has_in (slice_set slots (n % 64) (Some n)) m ≡ true
    → (has_in slots m ≡ true) ⊎ (m ≡ n)
marked_only slots n m size there = elim (eqb_tells (m % 64) (n % 64)) [
  | inl same ↦ inr (sym (eqb-true n m (sym (marked_there slots n m size same.1) ∙ there)))
  | inr differ ↦ inl (sym (marked_other slots n m differ.1) ∙ there)
]

-- a number less than 64 away that was there still is
kept : (slots : List (Option ℕ)) (n m : ℕ) → length slots ≡ 64 → m < n + 64 → n < m + 64 → has_in slots m ≡ true
    → has_in (slice_set slots (n % 64) (Some n)) m ≡ true
kept slots n m size below above there = elim (eqb_tells m n) [
  | inl same ↦ let P : ℕ → Type 0 = λ k. has_in (slice_set slots (n % 64) (Some n)) k ≡ true in subst P (sym same.1) (marked_same slots n size)
  | inr differ ↦ marked_other slots n m (rests m n below above differ.1) ∙ there
]

-- and this one is
pub marked_keeps : (slots : List (Option ℕ)) (n m : ℕ) → length slots ≡ 64 → m < n + 64 → n < m + 64 → (has_in slots m ≡ true) ⊎ (m ≡ n)
    → has_in (slice_set slots (n % 64) (Some n)) m ≡ true
marked_keeps slots n m size below above there = elim there [
  | inl before ↦ kept slots n m size below above before
  | inr same ↦ let P : ℕ → Type 0 = λ k. has_in (slice_set slots (n % 64) (Some n)) k ≡ true in subst P (sym same) (marked_same slots n size)
]
