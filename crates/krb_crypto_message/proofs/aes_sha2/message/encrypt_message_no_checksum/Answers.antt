use Rattle.std.proofs.Common.{◌≡◌, subst, ◌∙◌}
use Rattle.std.specs.Prelude.{IfOk}
use Rattle.std.proofs.lemmas.Int.{to_z-of_z}
use Rattle.std.proofs.lemmas.Result.{IfOk-weaker}
use Rattle.krb_crypto_message.specs.AesSha2.{IsSealedSha2, sha2_ke, sha2_ki, sha2_checksum_octets}
use Rattle.krb_crypto_message.specs.Sealing.{IsTheOne, Encrypts}
use Rattle.krb_crypto_message.proofs.Messages.{as_sha2}
use Rattle.krb_crypto_message.proofs.aes_sha2.message.encrypt_message_no_checksum.Goals as goal

pub returns-clause-encrypted : goal.returns-clause-encrypted
returns-clause-encrypted c =
    let fits = c.ranges.key_usage in
    let size = c.args.size.now in
    let key = c.args.key.now in
    let usage = c.args.key_usage in
    let keys = c.in_ok-keys.keys in
    let is : keys.size ≡ size = c.in_ok-keys.ensures.made.1 in
    let ke : keys.keys.ke ≡ sha2_ke size key usage = simp to_z-of_z at c.in_ok-keys.ensures.made.2 in
    let ki : keys.keys.ki ≡ sha2_ki size key usage = simp to_z-of_z at c.in_ok-keys.ensures.made.3 in
    subst (λ s. IfOk c.encrypt_no_checksum.result (λ made. IsTheOne (Encrypts (IsSealedSha2 size key usage) (sha2_checksum_octets s) c.args.confounder c.args.payload.now) made.encrypted.items)) is
    (as_sha2 (λ m. IfOk c.encrypt_no_checksum.result (λ made. IsTheOne (Encrypts m (sha2_checksum_octets keys.size) c.args.confounder c.args.payload.now) made.encrypted.items)) keys size key usage is ke ki c.encrypt_no_checksum.ensures.encrypted)

pub returns-clause-ki : goal.returns-clause-ki
returns-clause-ki c =
    let fits = c.ranges.key_usage in
    let ki : c.in_ok-keys.keys.keys.ki ≡ sha2_ki c.args.size.now c.args.key.now c.args.key_usage = simp to_z-of_z at c.in_ok-keys.ensures.made.3 in
    IfOk-weaker c.encrypt_no_checksum.result _ _ (λ made same. same ∙ ki) c.encrypt_no_checksum.ensures.ki
