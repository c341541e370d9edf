use Rattle.std.proofs.Common.{◌≡◌, ◌++◌, ℕ, List, ap, subst, ◌∙◌, refl, rules}
use Rattle.std.proofs.lemmas.Slice.{pushed}
use Rattle.krb_crypto_block.specs.Aes.{aes_block}
use Rattle.krb_crypto_block.specs.Modes.{Cts}
use Rattle.krb_crypto_message.specs.AesSha2.{sha2_seal_mac}
use Rattle.krb_crypto_message.specs.DerivedKeys.{IsSealedUnderSha2}
use Rattle.krb_crypto_message.specs.KeyedHash.{size_of, key_of}
use Rattle.krb_crypto_message.specs.Sealing.{IsTheOne}
use Rattle.krb_crypto_message.proofs.Opening.{IsEncrypted, seals}
use Rattle.krb_crypto_message.proofs.Messages.{cts_encrypted}
use Rattle.krb_crypto_message.proofs.Sha2Messages.{sha2_scheme}
use Rattle.krb_crypto_message.proofs.aes_sha2.prepared.Sha2SealingKey.encrypt.Goals as goal

pub returns-clause-sealed : goal.returns-clause-sealed
returns-clause-sealed c =
    let k = c.self.inside in
    let size = size_of k.ki in
    let ki : List ℕ = key_of k.ki in
    let confounder : List ℕ = c.args.confounder in
    let payload : List ℕ = c.args.payload.now in
    let padded : List ℕ = confounder ++ payload in
    let made : List ℕ = c.in_ok-octets.octets.items in
    let e : IsEncrypted 1 (Cts (aes_block k.ke)) ki confounder payload padded made ki =
    cts_encrypted k.ke ki confounder payload padded made refl c.in_ok-octets.ensures.octets c.in_ok-octets.ensures.encrypted_octets in
    let mac : List ℕ = c.as_slice.result.now in
    let mac_is : mac ≡ sha2_seal_mac size ki made = search rules in
    let all : c.extend_from_slice.new.self.items ≡ made ++ mac = pushed mac refl c.in_ok-extend_from_slice.was c.extend_from_slice.ensures.items in
    subst (λ v. IsTheOne (IsSealedUnderSha2 v.size v.keys confounder payload) c.extend_from_slice.new.self.items) c.self.view_is
    (seals (sha2_scheme size k.ke ki) confounder payload padded made ki c.extend_from_slice.new.self.items e (all ∙ ap (λ (m : List ℕ). made ++ m) mac_is))
