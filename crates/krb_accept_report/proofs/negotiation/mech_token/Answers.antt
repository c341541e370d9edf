use Rattle.krb_accept_report.proofs.Negotiations.{none_of, not_offered, of_message}
use Rattle.krb_accept_report.proofs.negotiation.mech_token.Goals as goal

pub returns-then-offers_kerberos : goal.returns-then-offers_kerberos
returns-then-offers_kerberos c =
    of_message _ c.in-Some.message (rw c.in-Some.is at c.in_ok-message.ensures) (rw c.if-offers_kerberos.true at c.offers_kerberos.ensures)
    c.token_of.result c.token_of.ensures

pub returns-else-offers_kerberos : goal.returns-else-offers_kerberos
returns-else-offers_kerberos c =
    not_offered _ c.in-Some.message (rw c.in-Some.is at c.in_ok-message.ensures) (rw c.if-offers_kerberos.false at c.offers_kerberos.ensures)

pub returns-in-None : goal.returns-in-None
returns-in-None c = none_of _ (rw c.in-None.is at c.in_ok-message.ensures)
