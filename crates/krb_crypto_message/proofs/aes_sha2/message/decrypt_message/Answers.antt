use Rattle.std.proofs.Common.{◌≡◌, inr}
use Rattle.std.specs.Prelude.{IfOk, IfErr}
use Rattle.std.proofs.lemmas.Int.{to_z-of_z}
use Rattle.std.proofs.lemmas.Result.{err_from_is_err_and}
use Rattle.krb_crypto_block.specs.Size.{key_octets}
use Rattle.krb_crypto_hash.specs.CryptoError.{IsMemoryOr}
use Rattle.krb_crypto_message.specs.AesSha2.{sha2_ke, sha2_ki, sha2_checksum_octets}
use Rattle.krb_crypto_message.specs.Sealing.{IsGiven, Opens, HasNoPayload}
use Rattle.krb_crypto_message.proofs.Opening.{none_shaped}
use Rattle.krb_crypto_message.proofs.Messages.{cts_unshaped, as_sha2}
use Rattle.krb_crypto_message.proofs.Sha2Messages.{sha2_scheme}
use Rattle.krb_crypto_message.proofs.aes_sha2.message.decrypt_message.Goals as goal

pub returns-in_err-keys-clause-rejected : goal.returns-in_err-keys-clause-rejected
returns-in_err-keys-clause-rejected c = λ right.
    let size = c.args.size.now in
    let key = c.args.key.now in
    let usage = c.args.key_usage in
    let bytes = c.args.cipher_data.now in
    let p = err_from_is_err_and c.from_residual.result c.from_residual.ensures.1 in
    rw (p.1, p.2) (inr (none_shaped (sha2_scheme size (sha2_ke size key usage) (sha2_ki size key usage)) bytes (cts_unshaped (sha2_checksum_octets size) (key_octets size) key bytes _ right c.in_err-keys.ensures.exact)))

pub returns-clause-opened : goal.returns-clause-opened
returns-clause-opened c =
    let fits = c.ranges.key_usage in
    let size = c.args.size.now in
    let key = c.args.key.now in
    let usage = c.args.key_usage in
    let keys = c.in_ok-keys.keys in
    let is : keys.size ≡ size = c.in_ok-keys.ensures.size in
    let ke : keys.keys.ke ≡ sha2_ke size key usage = simp to_z-of_z at c.in_ok-keys.ensures.ke in
    let ki : keys.keys.ki ≡ sha2_ki size key usage = simp to_z-of_z at c.in_ok-keys.ensures.ki in
    as_sha2 (λ m. IfOk c.decrypt.result (λ payload. Opens 1 (IsGiven m 16 c.args.cipher_data.now) payload.items)) keys size key usage is ke ki c.decrypt.ensures.opened

pub returns-clause-rejected : goal.returns-clause-rejected
returns-clause-rejected c = λ right.
    let fits = c.ranges.key_usage in
    let size = c.args.size.now in
    let key = c.args.key.now in
    let usage = c.args.key_usage in
    let keys = c.in_ok-keys.keys in
    let is : keys.size ≡ size = c.in_ok-keys.ensures.size in
    let ke : keys.keys.ke ≡ sha2_ke size key usage = simp to_z-of_z at c.in_ok-keys.ensures.ke in
    let ki : keys.keys.ki ≡ sha2_ki size key usage = simp to_z-of_z at c.in_ok-keys.ensures.ki in
    as_sha2 (λ m. IfErr c.decrypt.result (λ e. IsMemoryOr e (HasNoPayload m 16 c.args.cipher_data.now))) keys size key usage is ke ki c.decrypt.ensures.rejected
