use Rattle.std.proofs.Common.{◌≡◌, take, drop, map, reverse}
use Rattle.krb_crypto_block.specs.Des.{bits, rounds, key_bits}
use Rattle.krb_crypto_block.proofs.des.rounds.rounds_back.Given as goal

abbrev pub invariant-rounds : goal.invariant-rounds
invariant-rounds l = rounds (drop l.n (reverse (map key_bits l.keys))) (bits 32 l.left) (bits 32 l.right) ≡ rounds (reverse (map key_bits l.keys)) (take 32 (bits 64 l.block)) (drop 32 (bits 64 l.block))
