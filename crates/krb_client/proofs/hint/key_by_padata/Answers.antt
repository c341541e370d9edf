use Rattle.std.proofs.Common.{inl}
use Rattle.krb_client.proofs.Later.{or_first}
use Rattle.krb_client.proofs.hint.key_by_padata.Goals as goal

pub returns-in-Ok-clause-made : goal.returns-in-Ok-clause-made
returns-in-Ok-clause-made c = rw c.in-Some.is (inl (rw c.items.ensures at c.in-Ok.ensures.made))

pub returns-else-is_untold-clause-rejected : goal.returns-else-is_untold-clause-rejected
returns-else-is_untold-clause-rejected c =
    rw c.in-Some.is (or_first c.if-is_untold.ensures (rw c.items.ensures at c.in-Err.ensures.rejected))
