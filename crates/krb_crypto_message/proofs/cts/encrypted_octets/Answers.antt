use Rattle.std.proofs.Common.{◌≡◌, ◌++◌, ℕ, List, length, take, drop, subst, ◌∙◌}
use Rattle.krb_crypto_block.specs.Aes.{aes_block}
use Rattle.krb_crypto_block.specs.Modes.{Cts}
use Rattle.krb_crypto_message.proofs.Messages.{written}
use Rattle.krb_crypto_message.proofs.cts.encrypted_octets.Goals as goal

pub returns-clause-encrypted_octets : goal.returns-clause-encrypted_octets
returns-clause-encrypted_octets c =
    let ke : List ℕ = c.args.ke.now in
    let padded : List ℕ = c.in_ok-octets.octets.items in
    let made : List ℕ = c.encrypt_aes_cts.new.octets in
    let held : Cts (aes_block ke) (c.args.confounder.now ++ c.args.payload.now) made = subst (λ p. Cts (aes_block ke) p made) (c.deref_mut.ensures.value ∙ c.in_ok-octets.ensures.concatenated) c.encrypt_aes_cts.ensures in
    let back : take c.in_ok-octets.octets.len (made ++ drop (length made) padded) ≡ made = written padded made c.in_ok-octets.octets.len (c.encrypt_aes_cts.auto.octets ∙ c.deref_mut.ensures.len) in
    rw back held
