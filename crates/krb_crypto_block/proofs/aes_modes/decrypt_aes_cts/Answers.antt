use Rattle.std.proofs.Common.{◌≡◌, ◌++◌, length, take, drop, sym, ◌∙◌}
use Rattle.std.proofs.lemmas.List.{take_at}
use Rattle.krb_crypto_block.proofs.aes_modes.decrypt_aes_cts.Goals as goal

pub returns-clause-only : goal.returns-clause-only
returns-clause-only c = λ q octets is.
    let same : take c.in_ok-octets.octets.len (c.decrypt_aes_cts.new.octets ++ drop (length c.decrypt_aes_cts.new.octets) c.in_ok-octets.octets.items) ≡ c.decrypt_aes_cts.new.octets = take_at c.decrypt_aes_cts.new.octets (drop (length c.decrypt_aes_cts.new.octets) c.in_ok-octets.octets.items) c.in_ok-octets.octets.len (c.decrypt_aes_cts.auto.octets ∙ c.deref_mut.ensures.len) in
    let held : c.deref_mut.result.now ≡ c.args.cipher_text.now = c.deref_mut.ensures.value ∙ c.in_ok-octets.ensures.items in
    c.decrypt_aes_cts.ensures.only q octets (rw (c.in_ok-cipher.ensures.1, held) is) ∙ sym same
