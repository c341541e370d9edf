use Rattle.std.proofs.Common.{◌≡◌, ◌+◌, ◌<◌, ℕ, List, length, subst, rules, inr}
use Rattle.std.proofs.lemmas.Result.{err_from_is_err_and}
use Rattle.krb_crypto_block.specs.Aes.{aes_block}
use Rattle.krb_crypto_block.specs.Modes.{Cts}
use Rattle.krb_crypto_message.specs.AesSha2.{sha2_checksum_octets}
use Rattle.krb_crypto_message.specs.DerivedKeys.{IsSealedUnderSha2}
use Rattle.krb_crypto_message.specs.KeyedHash.{size_of, key_of}
use Rattle.krb_crypto_message.specs.MessageSteps.{IsDecrypted}
use Rattle.krb_crypto_message.specs.Sealing.{IsGiven, Opens, HasNoPayload}
use Rattle.krb_crypto_message.proofs.Opening.{seal_opens, none_ends, none_shaped}
use Rattle.krb_crypto_message.proofs.Messages.{cts_short}
use Rattle.krb_crypto_message.proofs.Sha2Messages.{sha2_scheme}
use Rattle.krb_crypto_message.proofs.aes_sha2.prepared.Sha2OpeningKey.decrypt.Goals as goal

pub returns-then-cipher_data-mac_size-clause-rejected : goal.returns-then-cipher_data-mac_size-clause-rejected
returns-then-cipher_data-mac_size-clause-rejected c =
    let k = c.self.inside in
    let bytes = c.args.cipher_data.now in
    let size = size_of k.ki in
    let few : length bytes < 16 + sha2_checksum_octets size = rw (c.checksum_size-mac_size.ensures, c.size.ensures) at c.if-cipher_data-mac_size.true in
    inr (subst (λ v. HasNoPayload (IsSealedUnderSha2 v.size v.keys) 16 bytes) c.self.view_is
    (none_shaped (sha2_scheme size k.ke (key_of k.ki)) bytes (cts_short (sha2_checksum_octets size) bytes few)))

pub returns-in_err-compare-clause-rejected : goal.returns-in_err-compare-clause-rejected
returns-in_err-compare-clause-rejected c =
    let k = c.self.inside in
    let bytes = c.args.cipher_data.now in
    let p = err_from_is_err_and c.from_residual.result c.from_residual.ensures.1 in
    rw (p.1, p.2)
    (inr (subst (λ v. HasNoPayload (IsSealedUnderSha2 v.size v.keys) 16 bytes) c.self.view_is
    (none_ends (sha2_scheme (size_of k.ki) k.ke (key_of k.ki)) bytes (λ q same. c.in_err-compare.ensures.rejected.0 same))))

pub trailing-requires : goal.trailing-requires
trailing-requires c = (c.in_ok-padded.ensures.decrypted (key_of c.self.inside.ki)).prefix

pub returns-clause-opened : goal.returns-clause-opened
returns-clause-opened c =
    let k = c.self.inside in
    let size = size_of k.ki in
    let ki : List ℕ = key_of k.ki in
    let bytes : List ℕ = c.args.cipher_data.now in
    let padded : List ℕ = c.in_ok-padded.padded.items in
    let mac_size : c.checksum_size-mac_size.result ≡ sha2_checksum_octets size = search rules in
    let d : IsDecrypted 1 16 (sha2_checksum_octets size) (Cts (aes_block k.ke)) ki bytes padded ki = rw mac_size at (c.in_ok-padded.ensures.decrypted ki) in
    subst (λ v. Opens 1 (IsGiven (IsSealedUnderSha2 v.size v.keys) 16 bytes) c.trailing.result.items) c.self.view_is
    (rw c.trailing.ensures (seal_opens (sha2_scheme size k.ke ki) bytes padded ki d c.in_ok-compare.ensures.alike))
