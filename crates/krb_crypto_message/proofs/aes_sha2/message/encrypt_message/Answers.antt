use Rattle.std.proofs.Common.{◌≡◌}
use Rattle.std.specs.Prelude.{IfOk}
use Rattle.std.proofs.lemmas.Int.{to_z-of_z}
use Rattle.krb_crypto_message.specs.AesSha2.{sha2_ke, sha2_ki}
use Rattle.krb_crypto_message.specs.Sealing.{IsTheOne}
use Rattle.krb_crypto_message.proofs.Messages.{as_sha2}
use Rattle.krb_crypto_message.proofs.aes_sha2.message.encrypt_message.Goals as goal

pub returns-clause-sealed : goal.returns-clause-sealed
returns-clause-sealed c =
    let fits = c.ranges.key_usage in
    let size = c.args.size.now in
    let key = c.args.key.now in
    let usage = c.args.key_usage in
    let keys = c.in_ok-keys.keys in
    let is : keys.size ≡ size = c.in_ok-keys.ensures.made.1 in
    let ke : keys.keys.ke ≡ sha2_ke size key usage = simp to_z-of_z at c.in_ok-keys.ensures.made.2 in
    let ki : keys.keys.ki ≡ sha2_ki size key usage = simp to_z-of_z at c.in_ok-keys.ensures.made.3 in
    as_sha2 (λ m. IfOk c.encrypt.result (λ octets. IsTheOne (m c.args.confounder c.args.payload.now) octets.items)) keys size key usage is ke ki c.encrypt.ensures.sealed
