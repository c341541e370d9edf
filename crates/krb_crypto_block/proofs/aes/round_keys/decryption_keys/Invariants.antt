use Rattle.std.proofs.Common.{◌≡◌, length}
use Rattle.krb_crypto_block.specs.Aes.{key_expansion}
use Rattle.krb_crypto_block.specs.AesLanes.{HasInverseVectorsBelow}
use Rattle.krb_crypto_block.specs.AesNextKey.{HasLast}
use Rattle.krb_crypto_block.proofs.aes.round_keys.decryption_keys.Given as goal

abbrev pub invariant-loop-n : goal.invariant-loop-n
invariant-loop-n g l =
    (length l.keys ≡ 15) × HasInverseVectorsBelow (key_expansion l.key) l.keys l.n × HasLast g.row.NK (key_expansion l.key) l.before l.last l.tower l.n
