use Rattle.krb_crypto_block.proofs.AesKeys.{keys_undo}
use Rattle.krb_crypto_block.proofs.aes.keys.AesEncryptionKey.undoes.Goals as goal

pub returns : goal.returns
returns c = keys_undo c.self.inside.octets c.args.self.now c.self.inside.rounds c.self.invariant.key c.self.told c.self.view_is
