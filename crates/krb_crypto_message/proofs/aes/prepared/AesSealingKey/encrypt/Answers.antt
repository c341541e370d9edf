use Rattle.std.proofs.Common.{◌≡◌, ◌++◌, ℕ, List, length, take, drop, ap, subst, ◌∙◌, refl, rules}
use Rattle.std.proofs.lemmas.Slice.{pushed}
use Rattle.krb_crypto_block.specs.Aes.{aes_block}
use Rattle.krb_crypto_block.specs.Modes.{Cts}
use Rattle.krb_crypto_message.specs.DerivedKeys.{IsSealedUnderAes}
use Rattle.krb_crypto_message.specs.MessageSteps.{cut_mac}
use Rattle.krb_crypto_message.specs.Sealing.{IsTheOne}
use Rattle.krb_crypto_message.proofs.Opening.{IsEncrypted, seals}
use Rattle.krb_crypto_message.proofs.Messages.{aes_scheme, cts_encrypted, written}
use Rattle.krb_crypto_message.proofs.aes.prepared.AesSealingKey.encrypt.Goals as goal

pub returns-clause-sealed : goal.returns-clause-sealed
returns-clause-sealed c =
    let k = c.self.inside in
    let confounder : List ℕ = c.args.confounder in
    let payload : List ℕ = c.args.payload.now in
    let padded : List ℕ = c.in_ok-octets.octets.items in
    let made : List ℕ = c.encrypt_aes_cts.new.octets in
    let encrypted_octets : Cts (aes_block k.ke) padded made = subst (λ p. Cts (aes_block k.ke) p made) c.deref_mut.ensures.value c.encrypt_aes_cts.ensures in
    let e : IsEncrypted 1 (Cts (aes_block k.ke)) k.ki confounder payload padded made k.ki =
    cts_encrypted k.ke k.ki confounder payload padded made c.in_ok-octets.ensures.concatenated c.in_ok-octets.ensures.octets encrypted_octets in
    let back : take c.in_ok-octets.octets.len (made ++ drop (length made) padded) ≡ made = written padded made c.in_ok-octets.octets.len (c.encrypt_aes_cts.auto.octets ∙ c.deref_mut.ensures.len) in
    let mac : List ℕ = take 12 c.mac-mac.result in
    let mac_is : mac ≡ cut_mac 12 k.ki padded = search rules in
    let all : c.extend_from_slice.new.self.items ≡ take c.in_ok-octets.octets.len (made ++ drop (length made) padded) ++ mac = pushed mac refl c.in_ok-extend_from_slice.was c.extend_from_slice.ensures.items in
    subst (λ v. IsTheOne (IsSealedUnderAes v confounder payload) c.extend_from_slice.new.self.items) c.self.view_is
    (seals (aes_scheme k.ke k.ki) confounder payload padded made k.ki c.extend_from_slice.new.self.items e (all ∙ ap (λ (m : List ℕ). m ++ mac) back ∙ ap (λ (m : List ℕ). made ++ m) mac_is))
