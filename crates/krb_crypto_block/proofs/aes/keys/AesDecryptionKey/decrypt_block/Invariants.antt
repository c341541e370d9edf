use Rattle.std.proofs.Common.{◌≤◌}
use Rattle.krb_crypto_block.specs.Aes.{key_expansion}
use Rattle.krb_crypto_block.proofs.AesInverseSteps.{HoldsInverseState}
use Rattle.krb_crypto_block.proofs.aes.keys.AesDecryptionKey.decrypt_block.Given as goal

abbrev pub invariant-loop-i : goal.invariant-loop-i
invariant-loop-i l =
    (1 ≤ l.i) × (l.i ≤ l.self-inside.rounds) × HoldsInverseState (key_expansion l.self) l.self-inside.rounds l.i l.fn.block l.s
