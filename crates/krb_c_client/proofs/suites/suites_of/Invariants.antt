use Rattle.std.proofs.Common.{◌≡◌, map, take}
use Rattle.krb_c_calls.specs.Numbers.{etype_number}
use Rattle.krb_c_client.proofs.suites.suites_of.Given as goal

-- the suites of the encryption types so far
abbrev pub invariant-loop-etype : goal.invariant-loop-etype
invariant-loop-etype l = map etype_number l.suites.items ≡ take l.etype-index l.etypes
