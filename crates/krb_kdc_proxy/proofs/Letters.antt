-- Texts, letters of either case alike.
use Rattle.std.proofs.Common.{◌≡◌, inl, inr, subst, ℕ, ◌+◌, ◌<◌, ◌≤◌, List, length, map, get_or, sym, ap, ◌∙◌, arith}
use Rattle.std.proofs.lemmas.List.{ext_get_or, get_or-map, length-map}
use Rattle.std.proofs.Math.Nat.{eq-or-lt_of_le}
use Rattle.std.specs.Char.{to_ascii_lowercase}

at : (xs : List ℕ) (j : ℕ) → j < length xs → get_or (map to_ascii_lowercase xs) j 0 ≡ to_ascii_lowercase (get_or xs j 0)
at xs j inside = get_or-map to_ascii_lowercase xs j 0 0 inside

pub are_same : (xs ys : List ℕ) → length xs ≡ length ys → ((j : ℕ) → j < length xs → to_ascii_lowercase (get_or xs j 0) ≡ to_ascii_lowercase (get_or ys j 0))
    → map to_ascii_lowercase xs ≡ map to_ascii_lowercase ys
are_same xs ys long each =
    ext_get_or 0 (map to_ascii_lowercase xs) (map to_ascii_lowercase ys) (length-map xs to_ascii_lowercase ∙ long ∙ sym (length-map ys to_ascii_lowercase))
    (λ j inside. let within : j < length xs = omega (arith, inside, length-map xs to_ascii_lowercase) in at xs j within ∙ each j within ∙ sym (at ys j (omega (arith, within, long))))

pub same_at : (xs ys : List ℕ) (j : ℕ) → length xs ≡ length ys → j < length xs → map to_ascii_lowercase xs ≡ map to_ascii_lowercase ys
    → to_ascii_lowercase (get_or xs j 0) ≡ to_ascii_lowercase (get_or ys j 0)
same_at xs ys j long inside e = sym (at xs j inside) ∙ ap (λ (l : List ℕ). get_or l j 0) e ∙ at ys j (omega (arith, inside, long))

pub same_long : (xs ys : List ℕ) → map to_ascii_lowercase xs ≡ map to_ascii_lowercase ys → length xs ≡ length ys
same_long xs ys e = sym (length-map xs to_ascii_lowercase) ∙ ap length e ∙ length-map ys to_ascii_lowercase

-- one more octet is the same
pub same_next : (xs ys : List ℕ) (i : ℕ) → ((j : ℕ) → j < i → to_ascii_lowercase (get_or xs j 0) ≡ to_ascii_lowercase (get_or ys j 0))
    → to_ascii_lowercase (get_or xs i 0) ≡ to_ascii_lowercase (get_or ys i 0)
    → (j : ℕ) → j < i + 1 → to_ascii_lowercase (get_or xs j 0) ≡ to_ascii_lowercase (get_or ys j 0)
same_next xs ys i before here j below =
    let within : j ≤ i = omega (arith, below) in
    elim (eq-or-lt_of_le within) [ inl is ↦ subst (λ (k : ℕ). to_ascii_lowercase (get_or xs k 0) ≡ to_ascii_lowercase (get_or ys k 0)) (sym is) here | inr less ↦ before j less ]
