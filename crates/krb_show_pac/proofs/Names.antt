-- Names that have ` kvno ` in them.
use Rattle.std.proofs.Common.{◌≡◌, ◌==◌, ℕ, true, false, nat_eq, List, [], ◌∷◌, codes, length, drop, refl, arith}
use Rattle.std.proofs.lemmas.Bool.{eqb-true}
use Rattle.std.specs.List.{starts_with}
use Rattle.krb_show_pac.specs.Holders.{has_version}

pub version_here : (b : List ℕ) → (length b == 0) ≡ false → starts_with nat_eq b (codes " kvno ") ≡ true
    → has_version b ≡ true
unfolding has_version
version_here [] some h = absurd cc
version_here (c ∷ cs) some h = rw h refl

pub version_behind : (b : List ℕ) → (length b == 0) ≡ false → starts_with nat_eq b (codes " kvno ") ≡ false
    → has_version b ≡ has_version (drop 1 b)
unfolding has_version
version_behind [] some h = absurd cc
version_behind (c ∷ cs) some h = rw h refl

pub version_none : (b : List ℕ) → (length b == 0) ≡ true → has_version b ≡ false
unfolding has_version
version_none [] h = refl
version_none (c ∷ cs) h =
    let none : length (c ∷ cs) ≡ 0 = eqb-true (length (c ∷ cs)) 0 h in
    absurd (omega (arith, none))
