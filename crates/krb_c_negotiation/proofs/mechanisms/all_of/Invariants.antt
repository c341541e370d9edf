use Rattle.std.proofs.Common.{◌≡◌, length, map, take}
use Rattle.krb_c_negotiation.specs.Mechanisms.{contents, told_content, words}
use Rattle.krb_c_negotiation.proofs.mechanisms.all_of.Given as goal

abbrev pub invariant-records : goal.invariant-records
invariant-records l =
    (map told_content l.all.items ≡ take l.record-index (contents l.side l.spoken (words l.tale) l.lists (words l.tale).mechanisms))
    × (length l.all.items ≡ l.record-index)
