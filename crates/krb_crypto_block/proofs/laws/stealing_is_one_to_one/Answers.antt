use Rattle.krb_crypto_block.specs.Aes.{aes_block}
use Rattle.krb_crypto_block.specs.InverseCipher.{aes_undo}
use Rattle.krb_crypto_block.proofs.AesUndoing.{are_inverse}
use Rattle.krb_crypto_block.proofs.StealingLaws.{has_one_plain}
use Rattle.krb_crypto_block.proofs.StealingUses.{Cts-same}
use Rattle.krb_crypto_block.proofs.laws.stealing_is_one_to_one.Goals as goal

pub returns-clause-onto : goal.returns-clause-onto
returns-clause-onto c = λ key text octets. has_one_plain (aes_block key) (aes_undo key) (are_inverse key octets) text

pub returns-clause-one : goal.returns-clause-one
returns-clause-one c = λ key. Cts-same (aes_block key)
