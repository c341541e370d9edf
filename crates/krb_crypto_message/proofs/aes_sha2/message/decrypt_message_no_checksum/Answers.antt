use Rattle.std.proofs.Common.{◌≡◌, subst, ◌∙◌, inr}
use Rattle.std.specs.Prelude.{IfOk, IfErr}
use Rattle.std.proofs.lemmas.Int.{to_z-of_z}
use Rattle.std.proofs.lemmas.Result.{err_from_is_err_and, IfOk-weaker}
use Rattle.krb_crypto_block.specs.Size.{key_octets}
use Rattle.krb_crypto_hash.specs.CryptoError.{IsMemoryOr}
use Rattle.krb_crypto_message.specs.AesSha2.{IsSealedSha2, sha2_ke, sha2_ki, sha2_checksum_octets}
use Rattle.krb_crypto_message.specs.Sealing.{OpensUnchecked, HasNoPayloadUnchecked}
use Rattle.krb_crypto_message.proofs.Opening.{none_split}
use Rattle.krb_crypto_message.proofs.Messages.{cts_unshaped, as_sha2}
use Rattle.krb_crypto_message.proofs.Sha2Messages.{sha2_scheme}
use Rattle.krb_crypto_message.proofs.aes_sha2.message.decrypt_message_no_checksum.Goals as goal

pub returns-in_err-keys-clause-rejected : goal.returns-in_err-keys-clause-rejected
returns-in_err-keys-clause-rejected c = λ right.
    let size = c.args.size.now in
    let key = c.args.key.now in
    let usage = c.args.key_usage in
    let bytes = c.args.cipher_data.now in
    let p = err_from_is_err_and c.from_residual.result c.from_residual.ensures.1 in
    rw (p.1, p.2) (inr (none_split (sha2_scheme size (sha2_ke size key usage) (sha2_ki size key usage)) bytes (cts_unshaped (sha2_checksum_octets size) (key_octets size) key bytes _ right c.in_err-keys.ensures.exact)))

pub returns-clause-opened : goal.returns-clause-opened
returns-clause-opened c =
    let fits = c.ranges.key_usage in
    let size = c.args.size.now in
    let key = c.args.key.now in
    let usage = c.args.key_usage in
    let keys = c.in_ok-keys.keys in
    let is : keys.size ≡ size = c.in_ok-keys.ensures.size in
    let ke : keys.keys.ke ≡ sha2_ke size key usage = simp to_z-of_z at c.in_ok-keys.ensures.ke in
    let ki : keys.keys.ki ≡ sha2_ki size key usage = simp to_z-of_z at c.in_ok-keys.ensures.ki in
    subst (λ s. IfOk c.decrypt_no_checksum.result (λ made. OpensUnchecked 1 16 (sha2_checksum_octets s) (IsSealedSha2 size key usage) c.args.cipher_data.now made.confounder.items made.plaintext.items made.checksum.items)) is
    (as_sha2 (λ m. IfOk c.decrypt_no_checksum.result (λ made. OpensUnchecked 1 16 (sha2_checksum_octets keys.size) m c.args.cipher_data.now made.confounder.items made.plaintext.items made.checksum.items)) keys size key usage is ke ki c.decrypt_no_checksum.ensures.opened)

pub returns-clause-rejected : goal.returns-clause-rejected
returns-clause-rejected c = λ right.
    let fits = c.ranges.key_usage in
    let size = c.args.size.now in
    let key = c.args.key.now in
    let usage = c.args.key_usage in
    let keys = c.in_ok-keys.keys in
    let is : keys.size ≡ size = c.in_ok-keys.ensures.size in
    let ke : keys.keys.ke ≡ sha2_ke size key usage = simp to_z-of_z at c.in_ok-keys.ensures.ke in
    let ki : keys.keys.ki ≡ sha2_ki size key usage = simp to_z-of_z at c.in_ok-keys.ensures.ki in
    subst (λ s. IfErr c.decrypt_no_checksum.result (λ e. IsMemoryOr e (HasNoPayloadUnchecked 16 (sha2_checksum_octets s) (IsSealedSha2 size key usage) c.args.cipher_data.now))) is
    (as_sha2 (λ m. IfErr c.decrypt_no_checksum.result (λ e. IsMemoryOr e (HasNoPayloadUnchecked 16 (sha2_checksum_octets keys.size) m c.args.cipher_data.now))) keys size key usage is ke ki c.decrypt_no_checksum.ensures.rejected)

pub returns-clause-ki : goal.returns-clause-ki
returns-clause-ki c =
    let fits = c.ranges.key_usage in
    let ki : c.in_ok-keys.keys.keys.ki ≡ sha2_ki c.args.size.now c.args.key.now c.args.key_usage = simp to_z-of_z at c.in_ok-keys.ensures.ki in
    IfOk-weaker c.decrypt_no_checksum.result _ _ (λ made same. same ∙ ki) c.decrypt_no_checksum.ensures.ki
