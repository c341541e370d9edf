use Rattle.std.proofs.Common.{sym, ap, ◌∙◌, ◌++◌, ◌∷◌, []}
use Rattle.std.proofs.lemmas.List.{take_all}
use Rattle.krb_show_negoex.proofs.Elements.{some_there, taken_more}
use Rattle.krb_show_negoex.proofs.extensions.Goals as goal

pub unreachable-requires : goal.unreachable-requires
unreachable-requires c =
    some_there c.args.view.now c.loop-n.n (rw (c.len-n-end.ensures) at c.loop-n-test.true) (sym c.in-None.is ∙ c.get.ensures)

pub loop-n-preserved : goal.loop-n-preserved
loop-n-preserved c =
    c.in_ok-push-in-Some.ensures.items ∙ ap (λ xs. xs ++ c.in-Some.extension ∷ []) c.loop-n.invariant
    ∙ sym (taken_more c.args.view.now c.loop-n.n c.in-Some.extension (sym c.in-Some.is ∙ c.get.ensures))

pub returns : goal.returns
returns c = c.loop-n.invariant ∙ take_all c.loop-n.n c.args.view.now (rw (c.len-n-end.ensures) at c.loop-n-test.false)
