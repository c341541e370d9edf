use Rattle.std.proofs.Common.{◌≡◌, ℕ, ◌≤◌, List, ◌∷◌, ◌++◌, rules, drop, take_all, get_or, length, arith, refl, ◌∙◌}
use Rattle.std.proofs.lemmas.List.{length-drop}
use Rattle.krb_types.proofs.lsap.token.record_of.Goals as goal

cut_at_eight : (xs : List ℕ) → 8 ≤ length xs
    → get_or xs 0 0 ∷ get_or xs 1 0 ∷ get_or xs 2 0 ∷ get_or xs 3 0 ∷ get_or xs 4 0 ∷ get_or xs 5 0 ∷ get_or xs 6 0 ∷ get_or xs 7 0 ∷ drop 8 xs ≡ xs
cut_at_eight (a ∷ b ∷ c ∷ d ∷ e ∷ f ∷ g ∷ h ∷ xs) le = refl
cut_at_eight xs le = absurd (omega (arith, le))

parts_concatenated : (p r q s m n : List ℕ) → p ≡ r → q ≡ s → m ≡ n → p ++ (q ++ m) ≡ r ++ (s ++ n)
parts_concatenated p r q s m n e f g = cc

pub returns-clause-octets : goal.returns-clause-octets
returns-clause-octets c =
    parts_concatenated _ _ _ _ c.copy_from_slice.new.self (drop 8 c.args.octets.now) c.number_of.ensures c.number_of-2.ensures (c.copy_from_slice.ensures.after ∙ take_all 32 (drop 8 c.args.octets.now) (omega (arith, length-drop 8 c.args.octets.now, c.fits-octets))) ∙ cut_at_eight c.args.octets.now (search rules)
