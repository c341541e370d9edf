use Rattle.std.proofs.Common.{pos, refl}
use Rattle.krb_client.proofs.Refusals.{tgs_granted, tgs_refused}
use Rattle.krb_client.proofs.replies.granted.check_tgs_rep.Goals as goal

pub returns-then-is_subkey-clause-found : goal.returns-then-is_subkey-clause-found
returns-then-is_subkey-clause-found c =
    tgs_granted _ _ c.args.asked.now c.args.clock.now c.args.key.now c.args.octets.now c.args.is_subkey (pos 9) (rw c.if-is_subkey.true refl) c.checked.result
    c.checked.ensures.found

pub returns-then-is_subkey-clause-rejected : goal.returns-then-is_subkey-clause-rejected
returns-then-is_subkey-clause-rejected c =
    tgs_refused _ _ c.args.asked.now c.args.clock.now c.args.key.now c.args.octets.now c.args.is_subkey (pos 9) (rw c.if-is_subkey.true refl) c.checked.result
    c.checked.ensures.rejected

pub returns-else-is_subkey-clause-found : goal.returns-else-is_subkey-clause-found
returns-else-is_subkey-clause-found c =
    tgs_granted _ _ c.args.asked.now c.args.clock.now c.args.key.now c.args.octets.now c.args.is_subkey (pos 8) (rw c.if-is_subkey.false refl) c.checked-else-is_subkey.result
    c.checked-else-is_subkey.ensures.found

pub returns-else-is_subkey-clause-rejected : goal.returns-else-is_subkey-clause-rejected
returns-else-is_subkey-clause-rejected c =
    tgs_refused _ _ c.args.asked.now c.args.clock.now c.args.key.now c.args.octets.now c.args.is_subkey (pos 8) (rw c.if-is_subkey.false refl) c.checked-else-is_subkey.result
    c.checked-else-is_subkey.ensures.rejected
