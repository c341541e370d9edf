-- A walk of one more token.
use Rattle.std.proofs.Common.{refl, subst, List, [], ◌∷◌, ◌++◌}
use Rattle.krb_show.specs.Tokens.{Begins, Token}
use Rattle.krb_show.specs.Walk.{Insertion, walk_of}

pub walk_more : {S : Type 0} (inserts : Insertion S) (ts : List Token) (t : Token) (first second third : S) (old middle between : List Token)
    → walk_of inserts first ts old second middle → inserts second t middle third between → Begins middle between
    → walk_of inserts first (ts ++ t ∷ []) old third (between ++ t ∷ [])
walk_more inserts [] t first second third old middle between (same, stays) h begins = (
  third,
  between,
  subst (λ s. inserts s t old third between) same (subst (λ page. inserts second t page third between) stays h),
  subst (λ page. Begins page between) stays begins,
  (refl, refl),
)
walk_more inserts (u ∷ us) t first second third old middle between (state, page, i, b, w) h begins =
    (state, page, i, b, walk_more inserts us t state second third (page ++ u ∷ []) middle between w h begins)
