use Rattle.std.proofs.Common.{◌≡◌, ℕ, ◌<◌, ◌≤◌, length, get_or, bit_xor}
use Rattle.krb_crypto_hash.proofs.xor.xored_with.Given as goal

abbrev pub invariant-loop-i : goal.invariant-loop-i
invariant-loop-i g l = record {
  sized : length l.combined ≡ g.row.SIZE;
  below : (k : ℕ) → k < l.i → get_or l.combined k 0 ≡ bit_xor (get_or l.part k 0) (get_or l.block k 0);
  above : (k : ℕ) → l.i ≤ k → get_or l.combined k 0 ≡ get_or l.block k 0;
}
