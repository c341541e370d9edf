use Rattle.std.proofs.Common.{refl}
use Rattle.krb_accept.specs.Pac.{no_checksum, no_client}
use Rattle.krb_accept.proofs.pac.check_octets.Goals as goal

pub returns-then-not-branch-clause-refused : goal.returns-then-not-branch-clause-refused
returns-then-not-branch-clause-refused c =
    no_checksum refl c.in-Ok.signatures c.in-Ok.ensures.found (rw c.if-not-branch.true at c.in_ok-has_checksum.ensures)

pub returns-then-not-branch-2-clause-refused : goal.returns-then-not-branch-2-clause-refused
returns-then-not-branch-2-clause-refused c =
    no_client refl c.in-Ok.signatures c.in-Some.info c.in-Ok.ensures.found c.in-Some.ensures (rw c.if-not-branch.false at c.in_ok-has_checksum.ensures)
    (rw c.if-not-branch-2.true at c.in_ok-is_client.ensures)
