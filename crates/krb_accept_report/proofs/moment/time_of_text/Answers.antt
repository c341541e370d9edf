use Rattle.krb_accept_report.proofs.Times.{no_element, other_element}
use Rattle.krb_accept_report.proofs.moment.time_of_text.Goals as goal

pub returns-in_default : goal.returns-in_default
returns-in_default c = no_element c.args.text.now (rw (c.in_default.is, c.deref.ensures.value, c.in_ok-element.ensures) at c.in_ok-time.ensures)

pub returns : goal.returns
returns c =
    let one = rw (c.in-Some.is, c.deref.ensures.value, c.in_ok-element.ensures) at c.in_ok-time.ensures in
    other_element c.args.text.now c.in-Some.time one.only (rw c.if-branch.false at c.in_ok-is_text_of.ensures)
