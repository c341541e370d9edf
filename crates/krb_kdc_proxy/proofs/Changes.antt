-- The first message of a frame, where there is one, and where there is none.
use Rattle.std.proofs.Common.{◌≡◌, ℕ, ◌<◌, Bool, true, false, eqb, List, [], ◌∷◌, length, refl, sym, ◌∙◌, arith}
use Rattle.std.proofs.lemmas.Bool.{eqb-true}

pub some_first : (first : List ℕ) (empty : Bool) → empty ≡ eqb (length first) 0 → empty ≡ false → 0 < length first
some_first [] empty is not = absurd (let e : true ≡ false = sym is ∙ not in cc)
some_first (x ∷ first) empty is not = omega arith

pub no_first : (first : List ℕ) (empty : Bool) → empty ≡ eqb (length first) 0 → empty ≡ true → first ≡ []
no_first [] empty is so = refl
no_first (x ∷ first) empty is so = absurd (omega (arith, eqb-true (length (x ∷ first)) 0 (sym is ∙ so)))
