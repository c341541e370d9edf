use Rattle.std.proofs.Common.{◌≡◌, ◌++◌, ℕ, List, length, take, drop, ap, sym, subst, ◌∙◌, refl, rules, arith}
use Rattle.std.proofs.lemmas.Slice.{pushed}
use Rattle.std.proofs.lemmas.List.{take_all}
use Rattle.krb_crypto_hash.specs.Hmac.{hmac}
use Rattle.krb_crypto_block.specs.Des.{ede3}
use Rattle.krb_crypto_block.specs.Modes.{IsCbc}
use Rattle.krb_crypto_message.specs.DerivedKeys.{IsSealedUnderDes3}
use Rattle.krb_crypto_message.specs.MessageSteps.{cut_mac}
use Rattle.krb_crypto_message.specs.Sealing.{IsTheOne}
use Rattle.krb_crypto_message.proofs.Opening.{IsEncrypted, seals}
use Rattle.krb_crypto_message.proofs.Messages.{des3_scheme, des3_encrypted, written}
use Rattle.krb_crypto_message.proofs.des.prepared.Des3MessageKey.encrypt.Goals as goal

pub returns-clause-sealed : goal.returns-clause-sealed
returns-clause-sealed c =
    let k = c.self.inside in
    let confounder : List ℕ = c.args.confounder in
    let payload : List ℕ = c.args.payload.now in
    let padded : List ℕ = c.in_ok-octets.octets.items in
    let made : List ℕ = c.encrypt_des.new.octets in
    let encrypted_octets : IsCbc 8 (ede3 k.ke) padded made = subst (λ p. IsCbc 8 (ede3 k.ke) p made) c.deref_mut.ensures.value c.encrypt_des.ensures in
    let e : IsEncrypted 8 (IsCbc 8 (ede3 k.ke)) k.ki confounder payload padded made k.ki =
    des3_encrypted k.ke k.ki confounder payload padded made c.in_ok-octets.ensures.padded c.in_ok-octets.ensures.octets encrypted_octets in
    let back : take c.in_ok-octets.octets.len (made ++ drop (length made) padded) ≡ made = written padded made c.in_ok-octets.octets.len (c.encrypt_des.auto.octets ∙ c.deref_mut.ensures.len) in
    let mac : List ℕ = c.mac-mac.result in
    let whole : length mac ≡ 20 = search rules in
    let made_mac : mac ≡ hmac k.ki padded = search rules in
    let mac_is : mac ≡ cut_mac 20 k.ki padded = sym (take_all 20 mac (omega (arith, whole))) ∙ ap (take 20) made_mac in
    let all : c.extend_from_slice.new.self.items ≡ take c.in_ok-octets.octets.len (made ++ drop (length made) padded) ++ mac = pushed mac refl c.in_ok-extend_from_slice.was c.extend_from_slice.ensures.items in
    subst (λ v. IsTheOne (IsSealedUnderDes3 v confounder payload) c.extend_from_slice.new.self.items) c.self.view_is
    (seals (des3_scheme k.ke k.ki) confounder payload padded made k.ki c.extend_from_slice.new.self.items e (all ∙ ap (λ (m : List ℕ). m ++ mac) back ∙ ap (λ (m : List ℕ). made ++ m) mac_is))
