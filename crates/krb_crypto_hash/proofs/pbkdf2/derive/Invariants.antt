use Rattle.std.proofs.Common.{◌≡◌, ℕ, ◌+◌, ◌*◌, ◌/◌, ◌%◌, ◌<◌, slice_index, length}
use Rattle.std.specs.Int.{bit_at}
use Rattle.krb_crypto_hash.specs.Hmac.{hmac_over}
use Rattle.krb_crypto_hash.specs.Pbkdf2.{count_bits}
use Rattle.krb_crypto_hash.proofs.pbkdf2.derive.Given as goal

abbrev pub invariant-loop-i : goal.invariant-loop-i
invariant-loop-i g l = (k b : ℕ) → k < length l.out → k < g.row.SIZE * l.i → bit_at (slice_index l.out k) b ≡ count_bits (hmac_over g.H.HashFunction.hash g.row.BLOCK) l.password l.salt (k / g.row.SIZE + 1) l.rounds (k % g.row.SIZE) b % 2
