use Rattle.std.proofs.Common.{◌≡◌, ℕ, List, ◌-◌, ◌%◌, length, slice_index}
use Rattle.std.specs.Int.{bit_at}
use Rattle.krb_crypto_hash.specs.Hmac.{hmac_over, IsReady}
use Rattle.krb_crypto_hash.specs.Pbkdf2.{chain, count_bits}
use Rattle.krb_crypto_hash.proofs.pbkdf2.derived_block.Given as goal

-- under each password that the key is ready for, the last of the chain, and the bits that an odd number have
abbrev pub invariant-loop-r : goal.invariant-loop-r
invariant-loop-r g l = record {
  sized : length l.sum ≡ g.row.SIZE;
  last : (password : List ℕ) → IsReady (g.H.HashFunction.holds l.inner) (g.H.HashFunction.holds l.outer) g.H.HashFunction.hash g.row.BLOCK password → l.last ≡ chain (hmac_over g.H.HashFunction.hash g.row.BLOCK) password l.salt l.index (l.r - 1);
  odd : (password : List ℕ) → IsReady (g.H.HashFunction.holds l.inner) (g.H.HashFunction.holds l.outer) g.H.HashFunction.hash g.row.BLOCK password → (k b : ℕ) → bit_at (slice_index l.sum k) b ≡ count_bits (hmac_over g.H.HashFunction.hash g.row.BLOCK) password l.salt l.index l.r k b % 2;
}
