use Rattle.std.proofs.Common.{inr}
use Rattle.krb_c_client.proofs.keys.push_key.Goals as goal

pub returns-in_ok-push : goal.returns-in_ok-push
returns-in_ok-push c = inr (c.in-Some.key, rw c.in-Some.is at c.in_ok-key.ensures, c.in_ok-push.ensures.items)
