-- Lists of places.
use Rattle.std.proofs.Common.{◌≡◌, List, ◌++◌, ap, ◌∙◌}
use Rattle.std.proofs.lemmas.List.{append_assoc}

-- what is appended to a list behind another
pub behind_both : {A : Type 0} (old done more between new : List A) → between ≡ old ++ done → new ≡ between ++ more → new ≡ old ++ (done ++ more)
behind_both old done more between new e f = f ∙ ap (λ l. l ++ more) e ∙ append_assoc old done more
