use Rattle.std.proofs.Common.{arith}
use Rattle.krb_build.proofs.messages.requests.as_req.Goals as goal

pub returns-in-Ok-clause-value : goal.returns-in-Ok-clause-value
returns-in-Ok-clause-value c =
    rw (c.field.ensures, c.from-in-Ok-3.ensures) ((tt, tt, c.known_padata.ensures, c.body-req_body.ensures.value c.in-Ok.ensures.options.1 c.in-Ok.ensures.till.0), omega arith)
