use Rattle.krb_accept_report.proofs.Negotiations.{token_in}
use Rattle.krb_accept_report.proofs.report.report_of.Goals as goal

pub returns-clause-said : goal.returns-clause-said
returns-clause-said c = (
  c.service_of-service.result.keys.now,
  c.token_or-token.result.now,
  rw (c.service_of-service.ensures.keys, c.deref.ensures.value) c.in_ok-keys.ensures.found,
  rw (c.token_or-token.ensures, ← c.question.view_is) (token_in _ c.question.inside.octets.now _ c.in_ok-inner.ensures),
  rw (c.service_of-service.ensures.terms, c.service_of-service.ensures.arrives, c.service_of-service.ensures.settings) at c.in_ok-said.ensures.said,
)
