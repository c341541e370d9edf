use Rattle.krb_accept.proofs.Delegations.{delegated_so}
use Rattle.krb_accept.proofs.delegation.credentials_of.Goals as goal

pub returns-in-Some : goal.returns-in-Some
returns-in-Some c =
    delegated_so _ _ c.args.accepted.now c.args.octets.now c.in-Some.message c.credentials_in.result (rw c.in-Some.is at c.in_ok-message.ensures)
    c.credentials_in.ensures
