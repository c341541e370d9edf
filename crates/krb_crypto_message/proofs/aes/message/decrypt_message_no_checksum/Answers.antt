use Rattle.std.proofs.Common.{◌≡◌, inr}
use Rattle.std.specs.Prelude.{IfOk, IfErr}
use Rattle.std.proofs.lemmas.Int.{to_z-of_z}
use Rattle.std.proofs.lemmas.Result.{err_from_is_err_and}
use Rattle.krb_crypto_block.specs.Size.{key_octets}
use Rattle.krb_crypto_hash.specs.CryptoError.{IsMemoryOr}
use Rattle.krb_crypto_message.specs.Sealed.{aes_ke, aes_ki}
use Rattle.krb_crypto_message.specs.Sealing.{OpensUnchecked, HasNoPayloadUnchecked}
use Rattle.krb_crypto_message.proofs.Opening.{none_split}
use Rattle.krb_crypto_message.proofs.Messages.{aes_scheme, cts_unshaped, as_aes}
use Rattle.krb_crypto_message.proofs.aes.message.decrypt_message_no_checksum.Goals as goal

pub returns-in_err-keys-clause-rejected : goal.returns-in_err-keys-clause-rejected
returns-in_err-keys-clause-rejected c = λ right.
    let key = c.args.key.now in
    let usage = c.args.key_usage in
    let bytes = c.args.cipher_data.now in
    let p = err_from_is_err_and c.from_residual.result c.from_residual.ensures.1 in
    rw (p.1, p.2) (inr (none_split (aes_scheme (aes_ke key usage) (aes_ki key usage)) bytes (cts_unshaped 12 (key_octets c.args.size.now) key bytes _ right c.in_err-keys.ensures.exact)))

pub returns-clause-opened : goal.returns-clause-opened
returns-clause-opened c =
    let fits = c.ranges.key_usage in
    let key = c.args.key.now in
    let usage = c.args.key_usage in
    let keys = c.in_ok-keys.keys in
    let ke : keys.ke ≡ aes_ke key usage = simp to_z-of_z at c.in_ok-keys.ensures.made.1 in
    let ki : keys.ki ≡ aes_ki key usage = simp to_z-of_z at c.in_ok-keys.ensures.made.2 in
    as_aes (λ m. IfOk c.decrypt_no_checksum.result (λ made. OpensUnchecked 1 16 12 m c.args.cipher_data.now made.confounder.items made.plaintext.items made.checksum.items)) keys key usage ke ki c.decrypt_no_checksum.ensures.opened

pub returns-clause-rejected : goal.returns-clause-rejected
returns-clause-rejected c = λ right.
    let fits = c.ranges.key_usage in
    let key = c.args.key.now in
    let usage = c.args.key_usage in
    let keys = c.in_ok-keys.keys in
    let ke : keys.ke ≡ aes_ke key usage = simp to_z-of_z at c.in_ok-keys.ensures.made.1 in
    let ki : keys.ki ≡ aes_ki key usage = simp to_z-of_z at c.in_ok-keys.ensures.made.2 in
    as_aes (λ m. IfErr c.decrypt_no_checksum.result (λ e. IsMemoryOr e (HasNoPayloadUnchecked 16 12 m c.args.cipher_data.now))) keys key usage ke ki c.decrypt_no_checksum.ensures.rejected
