-- A service alone, and this service at a host.
use Rattle.std.proofs.Common.{◌≡◌, ℕ, Bool, true, false, List, [], ◌∷◌, length, get_or, refl, sym, ap, ◌∙◌, arith, MatchBool}
use Rattle.krb_accept_rules.specs.Servers.{IsAtHost}

only_one : (xs : List (List ℕ)) (d : List ℕ) → length xs ≡ 1 → xs ≡ get_or xs 0 d ∷ []
only_one [] d e = absurd (omega (arith, e))
only_one (x ∷ []) d e = refl
only_one (x ∷ y ∷ xs) d e = absurd (omega (arith, e))

only_two : (xs : List (List ℕ)) (d : List ℕ) → length xs ≡ 2 → xs ≡ get_or xs 0 d ∷ (get_or xs 1 d ∷ [])
only_two [] d e = absurd (omega (arith, e))
only_two (x ∷ []) d e = absurd (omega (arith, e))
only_two (x ∷ y ∷ []) d e = refl
only_two (x ∷ y ∷ z ∷ xs) d e = absurd (omega (arith, e))

pub at_host : (named components : List (List ℕ)) (a b : List ℕ) (r : Bool) → length named ≡ 1 → length components ≡ 2 → a ≡ get_or named 0 a → b ≡ get_or components 0 b
    → MatchBool r (a ≡ b) (a ≡ b → ⊥) → MatchBool r (IsAtHost named components) (IsAtHost named components → ⊥)
at_host named components a b true one two is_a is_b same = record {
  service = a;
  host = get_or components 1 b;
  named_is = only_one named a one ∙ ap (λ x. x ∷ []) (sym is_a);
  components_are = only_two components b two ∙ ap (λ x. x ∷ (get_or components 1 b ∷ [])) (sym is_b ∙ sym same);
}
at_host named components a b false one two is_a is_b differs =
    λ h. differs (is_a ∙ ap (λ l. get_or l 0 a) h.named_is ∙ sym (is_b ∙ ap (λ l. get_or l 0 b) h.components_are))
