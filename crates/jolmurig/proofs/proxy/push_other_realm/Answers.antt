use Rattle.std.proofs.Common.{append_assoc}
use Rattle.jolmurig.proofs.proxy.push_other_realm.Goals as goal

pub returns : goal.returns
returns c = simp (c.in_ok-push.ensures.items, c.in_ok-push_escaped.ensures, c.in_ok-extend_from_slice.ensures.items, c.as_bytes.ensures.value, c.as_str.ensures, append_assoc)
