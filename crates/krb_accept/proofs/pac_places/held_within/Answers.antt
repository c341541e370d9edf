use Rattle.krb_accept.proofs.Pacs.{found_within_so, none_found}
use Rattle.krb_accept.proofs.pac_places.held_within.Goals as goal

pub returns-in-Some : goal.returns-in-Some
returns-in-Some c =
    found_within_so _ c.args.octets.now c.in-Some.inner c.items.result.now c.held_by_each.result (rw c.in-Some.is at c.in_ok-inner.ensures) c.items.ensures
    c.held_by_each.ensures

pub returns-in-None : goal.returns-in-None
returns-in-None c = none_found _ c.args.octets.now (rw c.in-None.is at c.in_ok-inner.ensures)
