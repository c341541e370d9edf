use Rattle.std.proofs.Common.{◌≡◌, take}
use Rattle.krb_crypto_hash.proofs.comparison.are_equal.Given as goal

abbrev pub invariant-loop-i : goal.invariant-loop-i
invariant-loop-i l =
    (l.difference ≡ 0 → take l.i l.first ≡ take l.i l.second) × (l.first ≡ l.second → l.difference ≡ 0)
