use Rattle.std.proofs.Common.{◌++◌, ℕ, List, subst, refl}
use Rattle.std.specs.Prelude.{IfOk}
use Rattle.std.proofs.lemmas.Result.{IfOk-weaker}
use Rattle.krb_crypto_block.specs.Aes.{aes_block}
use Rattle.krb_crypto_block.specs.Modes.{Cts}
use Rattle.krb_crypto_message.specs.AesSha2.{sha2_checksum_octets}
use Rattle.krb_crypto_message.specs.DerivedKeys.{IsSealedUnderSha2}
use Rattle.krb_crypto_message.specs.KeyedHash.{size_of, key_of}
use Rattle.krb_crypto_message.specs.Sealing.{IsTheOne, Encrypts}
use Rattle.krb_crypto_message.proofs.Opening.{IsEncrypted, encrypts_one}
use Rattle.krb_crypto_message.proofs.Messages.{cts_encrypted}
use Rattle.krb_crypto_message.proofs.Sha2Messages.{sha2_scheme}
use Rattle.krb_crypto_message.proofs.aes_sha2.prepared.Sha2SealingKey.encrypt_no_checksum.Goals as goal

pub returns-clause-encrypted : goal.returns-clause-encrypted
returns-clause-encrypted c =
    let k = c.self.inside in
    let size = size_of k.ki in
    let ki : List ℕ = key_of k.ki in
    let confounder : List ℕ = c.args.confounder in
    let payload : List ℕ = c.args.payload.now in
    let padded : List ℕ = confounder ++ payload in
    let made : List ℕ = c.in_ok-octets.octets.items in
    let e : IsEncrypted 1 (Cts (aes_block k.ke)) ki confounder payload padded made ki =
    cts_encrypted k.ke ki confounder payload padded made refl c.in_ok-octets.ensures.octets c.in_ok-octets.ensures.encrypted_octets in
    subst (λ v. IfOk c.without_checksum.result (λ sealed. IsTheOne (Encrypts (IsSealedUnderSha2 v.size v.keys) (sha2_checksum_octets v.size) confounder payload) sealed.encrypted.items)) c.self.view_is
    (IfOk-weaker c.without_checksum.result _ _ (λ sealed same. rw same (encrypts_one (sha2_scheme size k.ke ki) confounder payload padded made ki e)) c.without_checksum.ensures.encrypted)
