use Rattle.std.proofs.Common.{◌≡◌, ◌+◌, ◌-◌, suc, sym, ◌∙◌, arith, length-drop}
use Rattle.std.proofs.lemmas.Result.{err_from_is_err_and}
use Rattle.krb_pac_contents.proofs.Loops.{element_read, element_refused, elements_end}
use Rattle.krb_pac_contents.proofs.referents.element_pointers.Goals as goal

pub returns-in_err-needed_pointer : goal.returns-in_err-needed_pointer
returns-in_err-needed_pointer c =
    let p = err_from_is_err_and c.from_residual.result c.from_residual.ensures.1 in
    let more : c.args.count - c.elements.n ≡ suc (c.args.count - (c.elements.n + 1)) = omega arith in
    rw (p.1, p.2) (sym (c.elements.invariant.same
    ∙ element_refused _ (c.args.count - (c.elements.n + 1)) _ c.elements.rest.now more (sym c.in_err-needed_pointer.ensures)))

pub elements-preserved : goal.elements-preserved
elements-preserved c =
    let more : c.args.count - c.elements.n ≡ suc (c.args.count - (c.elements.n + 1)) = omega arith in
    rw c.split_at.ensures.back (record {
      room = omega (arith, length-drop 8 c.elements.rest.now);
      same = c.elements.invariant.same
          ∙ element_read _ (c.args.count - (c.elements.n + 1)) _ c.elements.rest.now more (sym c.in_ok-needed_pointer.ensures);
    })

pub returns : goal.returns
returns c = sym (c.elements.invariant.same ∙ elements_end _ c.elements.rest.now (omega arith))
