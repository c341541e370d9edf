use Rattle.std.proofs.Common.{◌≡◌}
use Rattle.std.specs.Prelude.{IfOk}
use Rattle.std.proofs.lemmas.Int.{to_z-of_z}
use Rattle.krb_crypto_message.specs.Sealed.{des3_ke, des3_ki}
use Rattle.krb_crypto_message.specs.Sealing.{IsTheOne}
use Rattle.krb_crypto_message.proofs.Messages.{as_des3}
use Rattle.krb_crypto_message.proofs.des.message.encrypt_message.Goals as goal

pub returns-clause-sealed : goal.returns-clause-sealed
returns-clause-sealed c =
    let fits = c.ranges.key_usage in
    let key = c.args.key.now in
    let usage = c.args.key_usage in
    let keys = c.in_ok-keys.keys in
    let ke : keys.ke ≡ des3_ke key usage = simp to_z-of_z at c.in_ok-keys.ensures.made.1 in
    let ki : keys.ki ≡ des3_ki key usage = simp to_z-of_z at c.in_ok-keys.ensures.made.2 in
    as_des3 (λ m. IfOk c.encrypt.result (λ octets. IsTheOne (m c.args.confounder c.args.payload.now) octets.items)) keys key usage ke ki c.encrypt.ensures.sealed
