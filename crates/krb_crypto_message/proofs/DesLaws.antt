-- What holds of each key that a seed gives.
use Rattle.std.proofs.Common.{◌≡◌, ℕ, zero, suc, ◌+◌, ◌*◌, ◌%◌, ◌<◌, ◌==◌, Bool, true, false, not, List, [], ◌∷◌, ◌++◌, length, take, drop, get_or, refl, sym, ap, subst, ◌∙◌, arith, inl, inr, append_assoc}
use Rattle.std.specs.Int.{bit_at}
use Rattle.std.specs.List.{All, Contains, sum}
use Rattle.std.proofs.lemmas.Bool.{eqb-true, cases_Bool, false≢true, not-true}
use Rattle.std.proofs.lemmas.List.{length-append, take_at, drop_at, take_all, get_or_default}
use Rattle.std.proofs.lemmas.List.Elements.{All-append}
use Rattle.krb_crypto_block.proofs.Tables.{all_below, all_below_at}
use Rattle.krb_crypto_block.specs.Des.{number_of_bits}
use Rattle.krb_crypto_message.specs.RandomToKey.{with_parity, upper_bits, HasOddParity, stretched, weak_keys, is_weak, repaired, key_part, random_to_key}
use Rattle.krb_crypto_message.proofs.DesParts.{upper_bits-sum, weak_at, is_weak-Contains, length-key_part}

-- ---- parity

abbrev is_odd : ℕ → Bool
is_odd x = sum (bit_at x 0 ∷ upper_bits x) % 2 == 1

odd_table : all_below (λ x. is_odd (with_parity (upper_bits x))) 256 ≡ true
unfolding number_of_bits with_parity
odd_table = refl

-- whatever the seven bits are
odd_row : (a b c d e f g : ℕ) → HasOddParity (with_parity (g % 2 ∷ f % 2 ∷ e % 2 ∷ d % 2 ∷ c % 2 ∷ b % 2 ∷ a % 2 ∷ []))
odd_row a b c d e f g =
    let n : ℕ = a % 2 * 2 + b % 2 * 4 + c % 2 * 8 + d % 2 * 16 + e % 2 * 32 + f % 2 * 64 + g % 2 * 128 in
    let bits = upper_bits-sum n a b c d e f g refl in
    subst (λ (row : List ℕ). HasOddParity (with_parity row)) bits (eqb-true _ 1 (all_below_at (λ x. is_odd (with_parity (upper_bits x))) 256 n odd_table (omega arith)))

odd_stretched : (octets : List ℕ) → All HasOddParity (stretched octets)
unfolding stretched
odd_stretched octets zero d lt = odd_row _ _ _ _ _ _ _
odd_stretched octets (suc zero) d lt = odd_row _ _ _ _ _ _ _
odd_stretched octets (suc (suc zero)) d lt = odd_row _ _ _ _ _ _ _
odd_stretched octets (suc (suc (suc zero))) d lt = odd_row _ _ _ _ _ _ _
odd_stretched octets (suc (suc (suc (suc zero)))) d lt = odd_row _ _ _ _ _ _ _
odd_stretched octets (suc (suc (suc (suc (suc zero))))) d lt = odd_row _ _ _ _ _ _ _
odd_stretched octets (suc (suc (suc (suc (suc (suc zero)))))) d lt = odd_row _ _ _ _ _ _ _
odd_stretched octets (suc (suc (suc (suc (suc (suc (suc zero))))))) d lt = odd_row _ _ _ _ _ _ _
odd_stretched octets (suc (suc (suc (suc (suc (suc (suc (suc k)))))))) d lt = absurd (omega arith)

-- ---- the 16 weak keys, repaired

abbrev changed : ℕ → List ℕ
changed k = repaired (get_or weak_keys k [])

changed_strong : all_below (λ k. not (is_weak (changed k))) 16 ≡ true
unfolding repaired is_weak weak_keys
changed_strong = refl

changed_long : all_below (λ k. length (changed k) == 8) 16 ≡ true
unfolding repaired is_weak weak_keys
changed_long = refl

changed_odd : all_below (λ k. all_below (λ j. is_odd (get_or (changed k) j 0)) 8) 16 ≡ true
unfolding repaired is_weak weak_keys
changed_odd = refl

repaired_strong : (key : List ℕ) → is_weak key ≡ false → repaired key ≡ key
unfolding repaired
repaired_strong key strong = rw strong refl

odd_repaired : (key : List ℕ) → All HasOddParity key → All HasOddParity (repaired key)
unfolding repaired
odd_repaired key odd =
    elim (cases_Bool (is_weak key)) [
      | inl weak ↦
          let at = weak_at key weak in
          let long : length (changed at.0) ≡ 8 = eqb-true _ 8 (all_below_at (λ k. length (changed k) == 8) 16 at.0 changed_long at.1) in
          subst (λ (l : List ℕ). All HasOddParity (repaired l)) at.2 (λ j d lt.
          let within : j < 8 = omega (arith, lt, long) in
          let test = all_below_at (λ i. is_odd (get_or (changed at.0) i 0)) 8 j (all_below_at (λ k. all_below (λ i. is_odd (get_or (changed k) i 0)) 8) 16 at.0 changed_odd at.1) within in
          subst HasOddParity (get_or_default (changed at.0) j 0 d lt) (eqb-true _ 1 test))
      | inr strong ↦ rw strong odd
    ]

strong_repaired : (key : List ℕ) → is_weak (repaired key) ≡ false
strong_repaired key =
    elim (cases_Bool (is_weak key)) [
      | inl weak ↦
          let at = weak_at key weak in
          subst (λ (l : List ℕ). is_weak (repaired l) ≡ false) at.2 (not-true _ (all_below_at (λ k. not (is_weak (changed k))) 16 at.0 changed_strong at.1))
      | inr strong ↦ ap is_weak (repaired_strong key strong) ∙ strong
    ]

-- ---- the three keys

odd_part : (octets : List ℕ) → All HasOddParity (key_part octets)
unfolding key_part
odd_part octets = odd_repaired (stretched octets) (odd_stretched octets)

strong_part : (octets : List ℕ) → is_weak (key_part octets) ≡ false
unfolding key_part
strong_part octets = strong_repaired (stretched octets)

pub length-random_to_key : (seed : List ℕ) → length (random_to_key seed) ≡ 24
unfolding random_to_key
length-random_to_key seed =
    rw (length-append, length-append, length-key_part (take 7 seed), length-key_part (take 7 (drop 7 seed)), length-key_part (take 7 (drop 14 seed))) refl

pub odd_key : (seed : List ℕ) → All HasOddParity (random_to_key seed)
unfolding random_to_key
odd_key seed =
    All-append HasOddParity (key_part (take 7 seed) ++ key_part (take 7 (drop 7 seed))) (key_part (take 7 (drop 14 seed)))
    (All-append HasOddParity (key_part (take 7 seed)) (key_part (take 7 (drop 7 seed))) (odd_part _) (odd_part _)) (odd_part _)

-- the parts of three keys concatenated
parts : (p q r : List ℕ) → length p ≡ 8 → length q ≡ 8 → length r ≡ 8 → (take 8 (p ++ q ++ r) ≡ p) × (take 8 (drop 8 (p ++ q ++ r)) ≡ q) × (take 8 (drop 16 (p ++ q ++ r)) ≡ r)
parts p q r lp lq lr =
    let both : length (p ++ q) ≡ 16 = length-append p q ∙ omega arith in
    let all : p ++ q ++ r ≡ p ++ (q ++ r) = append_assoc p q r in (
      ap (take 8) all ∙ take_at p (q ++ r) 8 lp,
      ap (λ (l : List ℕ). take 8 (drop 8 l)) all ∙ ap (take 8) (drop_at p (q ++ r) 8 lp) ∙ take_at q r 8 lq,
      ap (take 8) (drop_at (p ++ q) r 16 both) ∙ take_all 8 r (omega arith),
    )

three : (seed : List ℕ) →
    (take 8 (random_to_key seed) ≡ key_part (take 7 seed)) × (take 8 (drop 8 (random_to_key seed)) ≡ key_part (take 7 (drop 7 seed)))
    × (take 8 (drop 16 (random_to_key seed)) ≡ key_part (take 7 (drop 14 seed)))
unfolding random_to_key
three seed = parts (key_part (take 7 seed)) (key_part (take 7 (drop 7 seed))) (key_part (take 7 (drop 14 seed))) (length-key_part (take 7 seed)) (length-key_part (take 7 (drop 7 seed))) (length-key_part (take 7 (drop 14 seed)))

strong_from : (key part : List ℕ) → part ≡ key → is_weak key ≡ false → ¬ (Contains weak_keys part)
strong_from key part e strong h = false≢true (sym strong ∙ ap is_weak (sym e) ∙ is_weak-Contains part h)

pub strong_key : (seed : List ℕ) (part : ℕ) → part < 3 → ¬ (Contains weak_keys (take 8 (drop (8 * part) (random_to_key seed))))
strong_key seed zero lt = strong_from (key_part (take 7 seed)) _ (three seed).0 (strong_part (take 7 seed))
strong_key seed (suc zero) lt = strong_from (key_part (take 7 (drop 7 seed))) _ (three seed).1 (strong_part (take 7 (drop 7 seed)))
strong_key seed (suc (suc zero)) lt = strong_from (key_part (take 7 (drop 14 seed))) _ (three seed).2 (strong_part (take 7 (drop 14 seed)))
strong_key seed (suc (suc (suc part))) lt = absurd (omega arith)
