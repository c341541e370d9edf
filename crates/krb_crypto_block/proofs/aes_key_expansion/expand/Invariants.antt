use Rattle.std.proofs.Common.{◌≡◌, length}
use Rattle.krb_crypto_block.specs.Aes.{key_expansion}
use Rattle.krb_crypto_block.proofs.AesWordKeys.{AreWords}
use Rattle.krb_crypto_block.proofs.aes_key_expansion.expand.Given as goal

abbrev pub invariant-copy : goal.invariant-copy
invariant-copy g l = (length l.w ≡ 60) × AreWords l.key l.w l.i

abbrev pub invariant-expand : goal.invariant-expand
invariant-expand g l = (length l.w ≡ 60) × AreWords (key_expansion l.key) l.w l.i
