use Rattle.std.proofs.Common.{take}
use Rattle.krb_c_client.specs.Keys.{AreKeysOf}
use Rattle.krb_c_client.proofs.keys.keys_of.Given as goal

-- the client's keys among those so far
abbrev pub invariant-loop-key : goal.invariant-loop-key
invariant-loop-key l = AreKeysOf l.asked (take l.key-index l.keys) l.found.items
