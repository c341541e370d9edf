use Rattle.std.proofs.Common.{◌∙◌, ap}
use Rattle.krb_spnego.specs.Offering.{identifiers}
use Rattle.krb_spnego.proofs.machine.begin.Goals as goal

pub returns-in-Ok-clause-begun : goal.returns-in-Ok-clause-begun
returns-in-Ok-clause-begun g c =
    let listed = c.in_ok-types.ensures.listed ∙ ap (identifiers g.M.Mechanism.meaning c.args.first) c.deref.ensures.value in (
      c.in_ok-list.list,
      (rw listed at c.in_ok-list.ensures.1, (c.in-Ok.token, (c.in-Ok.ensures.begun, rw listed at c.in_ok-offer-in-Ok.ensures))),
    )
