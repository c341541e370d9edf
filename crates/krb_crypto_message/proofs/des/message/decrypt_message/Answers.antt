use Rattle.std.proofs.Common.{◌≡◌}
use Rattle.std.specs.Prelude.{IfOk, IfErr}
use Rattle.std.proofs.lemmas.Int.{to_z-of_z}
use Rattle.krb_crypto_hash.specs.CryptoError.{IsMemoryOr}
use Rattle.krb_crypto_message.specs.Sealed.{des3_ke, des3_ki}
use Rattle.krb_crypto_message.specs.Sealing.{IsGiven, Opens, HasNoPayload}
use Rattle.krb_crypto_message.proofs.Messages.{as_des3}
use Rattle.krb_crypto_message.proofs.des.message.decrypt_message.Goals as goal

pub returns-clause-opened : goal.returns-clause-opened
returns-clause-opened c =
    let fits = c.ranges.key_usage in
    let key = c.args.key.now in
    let usage = c.args.key_usage in
    let keys = c.in_ok-keys.keys in
    let ke : keys.ke ≡ des3_ke key usage = simp to_z-of_z at c.in_ok-keys.ensures.made.1 in
    let ki : keys.ki ≡ des3_ki key usage = simp to_z-of_z at c.in_ok-keys.ensures.made.2 in
    as_des3 (λ m. IfOk c.decrypt.result (λ payload. Opens 8 (IsGiven m 8 c.args.cipher_data.now) payload.items)) keys key usage ke ki c.decrypt.ensures.opened

pub returns-clause-rejected : goal.returns-clause-rejected
returns-clause-rejected c = λ right.
    let fits = c.ranges.key_usage in
    let key = c.args.key.now in
    let usage = c.args.key_usage in
    let keys = c.in_ok-keys.keys in
    let ke : keys.ke ≡ des3_ke key usage = simp to_z-of_z at c.in_ok-keys.ensures.made.1 in
    let ki : keys.ki ≡ des3_ki key usage = simp to_z-of_z at c.in_ok-keys.ensures.made.2 in
    as_des3 (λ m. IfErr c.decrypt.result (λ e. IsMemoryOr e (HasNoPayload m 8 c.args.cipher_data.now))) keys key usage ke ki c.decrypt.ensures.rejected
