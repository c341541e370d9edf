use Rattle.std.proofs.Common.{◌≡◌, take, drop, map}
use Rattle.krb_crypto_block.specs.Des.{bits, rounds, key_bits}
use Rattle.krb_crypto_block.proofs.des.rounds.rounds.Given as goal

abbrev pub invariant-rounds : goal.invariant-rounds
invariant-rounds l = rounds (drop l.n (map key_bits l.keys)) (bits 32 l.left) (bits 32 l.right) ≡ rounds (map key_bits l.keys) (take 32 (bits 64 l.block)) (drop 32 (bits 64 l.block))
