use Rattle.std.proofs.Common.{inr, subst}
use Rattle.std.specs.Prelude.{IfOk, IfErr}
use Rattle.std.proofs.lemmas.Result.{IfOk-weaker, IfErr-weaker}
use Rattle.krb_crypto_block.specs.Aes.{aes_block}
use Rattle.krb_crypto_block.specs.Modes.{Cts}
use Rattle.krb_crypto_hash.specs.CryptoError.{IsMemoryOr}
use Rattle.krb_crypto_message.specs.DerivedKeys.{IsSealedUnderAes}
use Rattle.krb_crypto_message.specs.MessageSteps.{IsDecrypted}
use Rattle.krb_crypto_message.specs.Sealing.{IsGiven, Opens, HasNoPayload}
use Rattle.krb_crypto_message.proofs.Opening.{seal_opens, none_sealed, none_shaped}
use Rattle.krb_crypto_message.proofs.Messages.{aes_scheme, cts_short}
use Rattle.krb_crypto_message.proofs.aes.prepared.AesOpeningKey.decrypt.Goals as goal

pub returns-then-cipher_data-lt-SHORTEST-clause-rejected : goal.returns-then-cipher_data-lt-SHORTEST-clause-rejected
returns-then-cipher_data-lt-SHORTEST-clause-rejected c =
    let bytes = c.args.cipher_data.now in
    inr (none_shaped (aes_scheme c.args.self.now.ke c.args.self.now.ki) bytes (cts_short 12 bytes c.if-cipher_data-lt-SHORTEST.true))

pub checked-requires-clause-prefix : goal.checked-requires-clause-prefix
checked-requires-clause-prefix c = (c.in_ok-padded.ensures.decrypted c.self.inside.ki).prefix

pub returns-clause-opened : goal.returns-clause-opened
returns-clause-opened c =
    let k = c.self.inside in
    let bytes = c.args.cipher_data.now in
    let padded = c.in_ok-padded.padded.items in
    let d : IsDecrypted 1 16 12 (Cts (aes_block k.ke)) k.ki bytes padded k.ki = c.in_ok-padded.ensures.decrypted k.ki in
    subst (λ v. IfOk c.checked.result (λ payload. Opens 1 (IsGiven (IsSealedUnderAes v) 16 bytes) payload.items)) c.self.view_is
    (IfOk-weaker c.checked.result _ _ (λ payload is. rw is.1 (seal_opens (aes_scheme k.ke k.ki) bytes padded k.ki d is.0)) c.checked.ensures.payload)

pub returns-clause-rejected : goal.returns-clause-rejected
returns-clause-rejected c =
    let k = c.self.inside in
    let bytes = c.args.cipher_data.now in
    let padded = c.in_ok-padded.padded.items in
    let d : IsDecrypted 1 16 12 (Cts (aes_block k.ke)) k.ki bytes padded k.ki = c.in_ok-padded.ensures.decrypted k.ki in
    subst (λ v. IfErr c.checked.result (λ e. IsMemoryOr e (HasNoPayload (IsSealedUnderAes v) 16 bytes))) c.self.view_is
    (IfErr-weaker c.checked.result _ _ (λ e why. inr (none_sealed (aes_scheme k.ke k.ki) bytes padded k.ki d why.0)) c.checked.ensures.rejected)
