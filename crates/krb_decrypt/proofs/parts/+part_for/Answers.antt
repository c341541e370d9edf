use Rattle.std.proofs.Common.{◌-◌, arith}
use Rattle.krb_decrypt.specs.Outcomes.{IsNoPart}
use Rattle.krb_decrypt.proofs.Filled.{more_zeros, on_ok}
use Rattle.krb_decrypt.proofs.Zeros.{each_of_other}
use Rattle.krb_decrypt.proofs.parts.+part_for.Goals as goal

pub returns-then-last-ne0 : goal.returns-then-last-ne0
returns-then-last-ne0 t c =
    each_of_other (IsNoPart c.args.usage) c.args.most c.args.octets.now c.in-Some-split_last.front.now c.in-Some-split_last.last.now
    c.in-Some-split_last.ensures.cases.0 c.if-last-ne0.true (rw c.in-None.is at c.in_ok-part.ensures)

pub returns-else-last-ne0 : goal.returns-else-last-ne0
returns-else-last-ne0 t c =
    let few = c.if-most-eq0.false in
    let whole = rw c.if-last-ne0.false at c.in-Some-split_last.ensures.cases.0 in
    on_ok c.part_for.result
    (more_zeros c.args.usage c.args.most (c.args.most - 1) c.args.octets.now c.in-Some-split_last.front.now (omega (arith, few)) whole
    (rw c.in-None.is at c.in_ok-part.ensures))
    c.part_for.ensures
