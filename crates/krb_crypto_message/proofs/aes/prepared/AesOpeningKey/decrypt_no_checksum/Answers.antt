use Rattle.std.proofs.Common.{inr, subst}
use Rattle.std.specs.Prelude.{IfOk}
use Rattle.std.proofs.lemmas.Result.{IfOk-weaker}
use Rattle.krb_crypto_block.specs.Aes.{aes_block}
use Rattle.krb_crypto_block.specs.Modes.{Cts}
use Rattle.krb_crypto_message.specs.DerivedKeys.{IsSealedUnderAes}
use Rattle.krb_crypto_message.specs.MessageSteps.{IsDecrypted}
use Rattle.krb_crypto_message.specs.Sealing.{OpensUnchecked}
use Rattle.krb_crypto_message.proofs.Opening.{splits, none_split}
use Rattle.krb_crypto_message.proofs.Messages.{aes_scheme, cts_short}
use Rattle.krb_crypto_message.proofs.aes.prepared.AesOpeningKey.decrypt_no_checksum.Goals as goal

pub returns-then-cipher_data-lt-SHORTEST-clause-rejected : goal.returns-then-cipher_data-lt-SHORTEST-clause-rejected
returns-then-cipher_data-lt-SHORTEST-clause-rejected c =
    let bytes = c.args.cipher_data.now in
    inr (none_split (aes_scheme c.args.self.now.ke c.args.self.now.ki) bytes (cts_short 12 bytes c.if-cipher_data-lt-SHORTEST.true))

pub unchecked-requires-clause-prefix : goal.unchecked-requires-clause-prefix
unchecked-requires-clause-prefix c = (c.in_ok-padded.ensures.decrypted c.self.inside.ki).prefix

pub returns-clause-opened : goal.returns-clause-opened
returns-clause-opened c =
    let k = c.self.inside in
    let bytes = c.args.cipher_data.now in
    let padded = c.in_ok-padded.padded.items in
    let d : IsDecrypted 1 16 12 (Cts (aes_block k.ke)) k.ki bytes padded k.ki = c.in_ok-padded.ensures.decrypted k.ki in
    subst (λ v. IfOk c.unchecked.result (λ split. OpensUnchecked 1 16 12 (IsSealedUnderAes v) bytes split.confounder.items split.plaintext.items split.checksum.items)) c.self.view_is
    (IfOk-weaker c.unchecked.result _ _ (λ split is. splits (aes_scheme k.ke k.ki) bytes padded k.ki split.confounder.items split.plaintext.items split.checksum.items d is) c.unchecked.ensures.parts)
