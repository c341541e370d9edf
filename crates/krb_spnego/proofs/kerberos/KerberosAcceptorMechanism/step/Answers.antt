use Rattle.std.proofs.Common.{ap}
use Rattle.std.specs.Prelude.{None}
use Rattle.krb_spnego.specs.KerberosMeaning.{told}
use Rattle.krb_spnego.proofs.kerberos.KerberosAcceptorMechanism.step.Goals as goal

pub returns-in-Ok-clause-taken : goal.returns-in-Ok-clause-taken
returns-in-Ok-clause-taken c = (
  c.in-Ok.client,
  c.in-Ok.ensures.taken,
  ap (λ x. record {
    service = c.args.self.now.service;
    confounder = c.args.self.now.confounder;
    number = c.args.self.now.number;
    next = c.args.self.now.next;
    client = x;
    refusal = told c.args.self.now.refusal None;
  }) c.replace.ensures.after,
)
