use Rattle.std.proofs.Common.{◌≡◌, ◌++◌, length, take, ◌*◌}
use Rattle.krb_crypto.specs.Agreement.{digests}
use Rattle.krb_crypto.proofs.diffie_hellman.seed_of.Given as goal

-- the prefix of the digests so far
abbrev pub invariant-loop-i : goal.invariant-loop-i
invariant-loop-i l = record {
  prefix : l.seed.items ≡ take l.size (digests (l.secret ++ l.client_nonce ++ l.server_nonce) l.i);
  long : length (digests (l.secret ++ l.client_nonce ++ l.server_nonce) l.i) ≡ 20 * l.i;
}
