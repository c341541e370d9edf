use Rattle.std.proofs.Common.{◌∙◌, sym}
use Rattle.krb_spnego.proofs.Picking.{picks_other}
use Rattle.krb_spnego.proofs.asking.pick_in.Goals as goal

pub returns-else-is_named : goal.returns-else-is_named
returns-else-is_named c =
    c.pick_other.ensures
    ∙ picks_other c.args.offered.now c.args.named.now c.in-Some.name _ c.in-Some.is
    (rw c.as_slice.ensures.value at (sym c.is_named.ensures ∙ c.if-is_named.false))
    (rw (c.as_slice-in-Some.ensures.value, c.deref.ensures.value) at c.find_named.ensures)
