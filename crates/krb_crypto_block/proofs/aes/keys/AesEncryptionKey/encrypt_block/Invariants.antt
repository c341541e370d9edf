use Rattle.std.proofs.Common.{◌≡◌, ◌-◌, ◌≤◌, map}
use Rattle.krb_crypto_block.specs.Aes.{key_expansion, rounds}
use Rattle.krb_crypto_block.specs.AesLanes.{tower}
use Rattle.krb_crypto_block.proofs.aes.keys.AesEncryptionKey.encrypt_block.Given as goal

abbrev pub invariant-loop-n : goal.invariant-loop-n
invariant-loop-n l = (1 ≤ l.n) × (l.s ≡ map tower (rounds (key_expansion l.self) l.fn.block (l.n - 1)))
