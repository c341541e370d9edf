use Rattle.std.proofs.Common.{◌≡◌, ◌/◌, ◌+◌, ◌*◌, ◌∙◌, length, refl, ap, arith, inl, inr, rules}
use Rattle.krb_crypto_block.specs.Size.{key_octets}
use Rattle.krb_crypto_block.proofs.AesKeys.{decrypts_with}
use Rattle.krb_crypto_block.proofs.aes.keys.AesDecryptionKey.new.Goals as goal
use Rattle.krb_crypto_block.proofs.aes.keys.AesDecryptionKey.new.Goals.{in-Aes256, in-Aes128}

pub invariant_of-result : goal.invariant_of-result
invariant_of-result c =
    let key = c.args.key.now in
    let kept = c.kept_octets.result in
    elim c.match-size.branch [
      | in-Aes256 w ↦
          let long : length key ≡ 4 * 8 = c.if-key-wanted.false ∙ c.key_length-wanted.ensures ∙ ap key_octets w.in-Aes256.is in
          let rounds : length key / 4 + 6 ≡ 8 + 6 = omega arith in
          rw (rounds, w.keys-is) (decrypts_with key kept 8 (inr refl) long c.kept_octets.ensures.octets c.kept_octets.ensures.prefix _ (search rules) w.decryption_keys.ensures)
      | in-Aes128 w ↦
          let long : length key ≡ 4 * 4 = c.if-key-wanted.false ∙ c.key_length-wanted.ensures ∙ ap key_octets w.in-Aes128.is in
          let rounds : length key / 4 + 6 ≡ 4 + 6 = omega arith in
          rw (rounds, w.keys-is) (decrypts_with key kept 4 (inl refl) long c.kept_octets.ensures.octets c.kept_octets.ensures.prefix _ (search rules) w.decryption_keys-in-Aes128.ensures)
    ]
