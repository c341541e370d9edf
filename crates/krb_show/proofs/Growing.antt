-- Pages that grow.
use Rattle.std.proofs.Common.{refl, sym, ap, subst, ◌∙◌, List, [], ◌∷◌, ◌++◌, take, length, arith}
use Rattle.std.proofs.lemmas.List.{take_all, take-take, length-take}
use Rattle.krb_show.specs.Tokens.{Token, Begins}
use Rattle.krb_show.specs.Pages.{each_of}

-- a page begins with itself
pub begins_self : (page : List Token) → Begins page page
begins_self page = take_all _ page (grind arith)

-- what begins with what begins with a page, begins with it
pub begins_more : (first second third : List Token) → Begins first second → Begins second third → Begins first third
begins_more first second third e f =
    let same = ap length e in
    sym (take-take (length first) (length second) third (omega (arith, length-take (length first) second, same))) ∙ ap (take (length first)) f ∙ e

-- one more after each of these
pub each_more : {A : Type 0} (shows : A → List Token → List Token → Type 0) (vs : List A) (v : A) (first second third : List Token)
    → each_of shows vs first second → shows v second third → each_of shows (vs ++ v ∷ []) first third
each_more shows [] v first second third e h = (third, subst (λ page. shows v page third) e h, refl)
each_more shows (w ∷ ws) v first second third (between, p, q) h = (between, p, each_more shows ws v between second third q h)
