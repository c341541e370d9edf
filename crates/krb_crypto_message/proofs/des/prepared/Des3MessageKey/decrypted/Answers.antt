use Rattle.std.proofs.Common.{◌≡◌, ◌++◌, ◌-◌, ◌≤◌, ℕ, List, length, take, drop, sym, subst, ◌∙◌, rules}
use Rattle.krb_crypto_block.specs.Des.{ede3}
use Rattle.krb_crypto_block.specs.Modes.{IsCbc, IsOctets}
use Rattle.krb_crypto_message.specs.MessageSteps.{IsDecrypted}
use Rattle.krb_crypto_message.proofs.Messages.{des3_decrypted, written}
use Rattle.krb_crypto_message.proofs.des.prepared.Des3MessageKey.decrypted.Goals as goal

pub returns-clause-decrypted : goal.returns-clause-decrypted
returns-clause-decrypted c =
    let k = c.self.inside in
    let bytes : List ℕ = c.args.cipher_data.now in
    let prefix : List ℕ = take (length bytes - 20) bytes in
    let made : List ℕ = c.decrypt_des.new.octets in
    let held : c.deref_mut.result.now ≡ prefix = c.deref_mut.ensures.value ∙ c.in_ok-padded.ensures.items in
    let back : take c.in_ok-padded.padded.len (made ++ drop (length made) c.in_ok-padded.padded.items) ≡ made = written c.in_ok-padded.padded.items made c.in_ok-padded.padded.len (c.decrypt_des.auto.octets ∙ c.deref_mut.ensures.len) in
    let octets : IsOctets made = subst IsOctets (c.deref.ensures.value ∙ back) c.are_octets.ensures in
    let long : 28 ≤ length bytes = search rules in
    let d : IsDecrypted 8 8 20 (IsCbc 8 (ede3 k.ke)) k.ki bytes made k.ki = des3_decrypted k.ke k.ki bytes made long octets (subst (λ p. IsCbc 8 (ede3 k.ke) made p) held c.decrypt_des.ensures.plain)
    (λ q is h. c.decrypt_des.ensures.only q is (subst (λ p. IsCbc 8 (ede3 k.ke) q p) (sym held) h)) in
    rw back (subst (λ v. IsDecrypted 8 8 20 (IsCbc 8 (ede3 v.ke)) v.ki bytes made v.ki) c.self.view_is d)
