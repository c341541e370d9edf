use Rattle.std.proofs.Common.{◌≡◌, ◌++◌, ℕ, List, length, take, drop, subst, ◌∙◌}
use Rattle.std.specs.Prelude.{IfOk}
use Rattle.std.proofs.lemmas.Result.{IfOk-weaker}
use Rattle.krb_crypto_block.specs.Des.{ede3}
use Rattle.krb_crypto_block.specs.Modes.{IsCbc}
use Rattle.krb_crypto_message.specs.DerivedKeys.{IsSealedUnderDes3}
use Rattle.krb_crypto_message.specs.Sealing.{IsTheOne, Encrypts}
use Rattle.krb_crypto_message.proofs.Opening.{IsEncrypted, encrypts_one}
use Rattle.krb_crypto_message.proofs.Messages.{des3_scheme, des3_encrypted, written}
use Rattle.krb_crypto_message.proofs.des.prepared.Des3MessageKey.encrypt_no_checksum.Goals as goal

pub returns-clause-encrypted : goal.returns-clause-encrypted
returns-clause-encrypted c =
    let k = c.self.inside in
    let confounder : List ℕ = c.args.confounder in
    let payload : List ℕ = c.args.payload.now in
    let padded : List ℕ = c.in_ok-octets.octets.items in
    let made : List ℕ = c.encrypt_des.new.octets in
    let encrypted_octets : IsCbc 8 (ede3 k.ke) padded made = subst (λ p. IsCbc 8 (ede3 k.ke) p made) c.deref_mut.ensures.value c.encrypt_des.ensures in
    let e : IsEncrypted 8 (IsCbc 8 (ede3 k.ke)) k.ki confounder payload padded made k.ki =
    des3_encrypted k.ke k.ki confounder payload padded made c.in_ok-octets.ensures.padded c.in_ok-octets.ensures.octets encrypted_octets in
    let back : take c.in_ok-octets.octets.len (made ++ drop (length made) padded) ≡ made = written padded made c.in_ok-octets.octets.len (c.encrypt_des.auto.octets ∙ c.deref_mut.ensures.len) in
    subst (λ v. IfOk c.without_checksum.result (λ sealed. IsTheOne (Encrypts (IsSealedUnderDes3 v) 20 confounder payload) sealed.encrypted.items)) c.self.view_is
    (IfOk-weaker c.without_checksum.result _ _ (λ sealed same. let is : sealed.encrypted.items ≡ made = same ∙ back in rw is (encrypts_one (des3_scheme k.ke k.ki) confounder payload padded made k.ki e)) c.without_checksum.ensures.encrypted)
