use Rattle.std.proofs.Common.{◌≡◌, ◌+◌, ◌<◌, ℕ, List, length, subst, rules, inr}
use Rattle.std.specs.Prelude.{IfOk}
use Rattle.std.proofs.lemmas.Result.{IfOk-weaker}
use Rattle.krb_crypto_block.specs.Aes.{aes_block}
use Rattle.krb_crypto_block.specs.Modes.{Cts}
use Rattle.krb_crypto_message.specs.AesSha2.{sha2_checksum_octets}
use Rattle.krb_crypto_message.specs.DerivedKeys.{IsSealedUnderSha2}
use Rattle.krb_crypto_message.specs.KeyedHash.{size_of, key_of}
use Rattle.krb_crypto_message.specs.MessageSteps.{IsDecrypted}
use Rattle.krb_crypto_message.specs.Sealing.{OpensUnchecked, HasNoPayloadUnchecked}
use Rattle.krb_crypto_message.proofs.Opening.{splits, none_split}
use Rattle.krb_crypto_message.proofs.Messages.{cts_short}
use Rattle.krb_crypto_message.proofs.Sha2Messages.{sha2_scheme}
use Rattle.krb_crypto_message.proofs.aes_sha2.prepared.Sha2OpeningKey.decrypt_no_checksum.Goals as goal

pub returns-then-cipher_data-mac_size-clause-rejected : goal.returns-then-cipher_data-mac_size-clause-rejected
returns-then-cipher_data-mac_size-clause-rejected c =
    let k = c.self.inside in
    let bytes = c.args.cipher_data.now in
    let size = size_of k.ki in
    let few : length bytes < 16 + sha2_checksum_octets size = rw (c.checksum_size-mac_size.ensures, c.size.ensures) at c.if-cipher_data-mac_size.true in
    inr (subst (λ v. HasNoPayloadUnchecked 16 (sha2_checksum_octets v.size) (IsSealedUnderSha2 v.size v.keys) bytes) c.self.view_is
    (none_split (sha2_scheme size k.ke (key_of k.ki)) bytes (cts_short (sha2_checksum_octets size) bytes few)))

pub unchecked-requires-clause-prefix : goal.unchecked-requires-clause-prefix
unchecked-requires-clause-prefix c = (c.in_ok-padded.ensures.decrypted (key_of c.self.inside.ki)).prefix

pub returns-clause-opened : goal.returns-clause-opened
returns-clause-opened c =
    let k = c.self.inside in
    let size = size_of k.ki in
    let ki : List ℕ = key_of k.ki in
    let bytes : List ℕ = c.args.cipher_data.now in
    let padded : List ℕ = c.in_ok-padded.padded.items in
    let mac_size : c.checksum_size-mac_size.result ≡ sha2_checksum_octets size = search rules in
    let d : IsDecrypted 1 16 (sha2_checksum_octets size) (Cts (aes_block k.ke)) ki bytes padded ki = rw mac_size at (c.in_ok-padded.ensures.decrypted ki) in
    let parts = rw mac_size at c.unchecked.ensures.parts in
    subst (λ v. IfOk c.unchecked.result (λ split. OpensUnchecked 1 16 (sha2_checksum_octets v.size) (IsSealedUnderSha2 v.size v.keys) bytes split.confounder.items split.plaintext.items split.checksum.items)) c.self.view_is
    (IfOk-weaker c.unchecked.result _ _ (λ split is. splits (sha2_scheme size k.ke ki) bytes padded ki split.confounder.items split.plaintext.items split.checksum.items d is) parts)
