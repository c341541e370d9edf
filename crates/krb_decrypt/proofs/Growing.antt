-- Pages that grow.
use Rattle.std.proofs.Common.{ap, ◌∙◌, sym, List, take, length, arith}
use Rattle.std.proofs.lemmas.List.{take_all, take-take, length-take}
use Rattle.krb_show.specs.Tokens.{Token, Begins}

-- a page begins with itself
pub begins_self : (page : List Token) → Begins page page
begins_self page = take_all _ page (grind arith)

-- what begins with what begins with a page, begins with it
pub begins_more : (first second third : List Token) → Begins first second → Begins second third → Begins first third
begins_more first second third e f =
    let same = ap length e in
    sym (take-take (length first) (length second) third (omega (arith, length-take (length first) second, same))) ∙ ap (take (length first)) f ∙ e
