use Rattle.std.proofs.Common.{◌≡◌}
use Rattle.std.specs.Prelude.{IfOk}
use Rattle.std.proofs.lemmas.Int.{to_z-of_z}
use Rattle.krb_crypto_message.specs.Sealed.{aes_ke, aes_ki}
use Rattle.krb_crypto_message.specs.Sealing.{IsTheOne}
use Rattle.krb_crypto_message.proofs.Messages.{as_aes}
use Rattle.krb_crypto_message.proofs.aes.message.encrypt_message.Goals as goal

pub returns-clause-sealed : goal.returns-clause-sealed
returns-clause-sealed c =
    let fits = c.ranges.key_usage in
    let key = c.args.key.now in
    let usage = c.args.key_usage in
    let keys = c.in_ok-keys.keys in
    let ke : keys.ke ≡ aes_ke key usage = simp to_z-of_z at c.in_ok-keys.ensures.made.1 in
    let ki : keys.ki ≡ aes_ki key usage = simp to_z-of_z at c.in_ok-keys.ensures.made.2 in
    as_aes (λ m. IfOk c.encrypt.result (λ octets. IsTheOne (m c.args.confounder c.args.payload.now) octets.items)) keys key usage ke ki c.encrypt.ensures.sealed
