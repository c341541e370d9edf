use Rattle.std.proofs.Common.{rules, ◌≡◌, length}
use Rattle.std.proofs.lemmas.Int.{to_z-of_z}
use Rattle.krb_crypto_block.specs.Aes.{aes_block}
use Rattle.krb_crypto_block.specs.Fold.{fold}
use Rattle.krb_crypto_message.specs.WellKnown.{usage_constant}
use Rattle.krb_c_calls.proofs.KeptSums.{held_block}
use Rattle.krb_c_calls.proofs.kept_checksums.aes128_kc.Goals as goal

pub returns : goal.returns
returns c =
    let fits = c.ranges.usage in
    let is = c.in_ok-cipher.ensures in
    let made : c.first_block.result ≡ aes_block c.in_ok-cipher.cipher (fold (usage_constant c.args.usage 0x99) 128) = simp to_z-of_z at c.first_block.ensures in
    let size : length c.first_block.result ≡ 16 = search rules in
    (is.0, held_block c.args.key.now c.args.usage c.in_ok-cipher.cipher c.first_block.result c.filled.result is.0 is.1 made size c.filled.ensures.octets c.filled.ensures.zeros)
