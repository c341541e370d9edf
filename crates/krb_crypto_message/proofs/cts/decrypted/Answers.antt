use Rattle.std.proofs.Common.{◌≡◌, ◌++◌, ◌-◌, ℕ, List, length, take, drop, sym, subst, ◌∙◌}
use Rattle.krb_crypto_block.specs.Aes.{aes_block}
use Rattle.krb_crypto_block.specs.Modes.{Cts, IsOctets}
use Rattle.krb_crypto_message.proofs.Messages.{cts_decrypted, written}
use Rattle.krb_crypto_message.proofs.cts.decrypted.Goals as goal

pub returns-clause-decrypted : goal.returns-clause-decrypted
returns-clause-decrypted c = λ ki.
    let ke : List ℕ = c.args.ke.now in
    let bytes : List ℕ = c.args.cipher_data.now in
    let prefix : List ℕ = take (length bytes - c.args.mac_size) bytes in
    let made : List ℕ = c.decrypt_aes_cts.new.octets in
    let held : c.deref_mut.result.now ≡ prefix = c.deref_mut.ensures.value ∙ c.in_ok-padded.ensures.items in
    let back : take c.in_ok-padded.padded.len (made ++ drop (length made) c.in_ok-padded.padded.items) ≡ made = written c.in_ok-padded.padded.items made c.in_ok-padded.padded.len (c.decrypt_aes_cts.auto.octets ∙ c.deref_mut.ensures.len) in
    let octets : IsOctets made = subst IsOctets (c.deref.ensures.value ∙ back) c.are_octets.ensures in
    rw back (cts_decrypted c.args.mac_size ke ki bytes made c.requires octets (subst (λ p. Cts (aes_block ke) made p) held c.decrypt_aes_cts.ensures.plain)
    (λ q is h. c.decrypt_aes_cts.ensures.only q is (subst (λ p. Cts (aes_block ke) q p) (sym held) h)))
