-- Pages with insertions.
use Rattle.std.specs.Prelude.{◌≡◌, List, [], ◌∷◌, ◌++◌}
use Rattle.krb_show.specs.Tokens.{Begins, Token}

-- what is inserted before a token: the state before, the token, the page up to it, the state after, the page with what is inserted
abbrev pub Insertion : Type 0 → Type 1
Insertion S = S → Token → List Token → S → List Token → Type 0

-- The second page is the first, and behind it the tokens in their order, before each what is inserted before it. Nothing of what stood there is
-- changed.
abbrev pub walk_of : {S : Type 0} → Insertion S → S → List Token → List Token → S → List Token → Type 0
walk_of inserts before [] old after new = (after ≡ before) × (new ≡ old)
walk_of {S} inserts before (t ∷ ts) old after new =
    (middle : S) × (between : List Token) × inserts before t old middle between × Begins old between
    × walk_of inserts middle ts (between ++ t ∷ []) after new
