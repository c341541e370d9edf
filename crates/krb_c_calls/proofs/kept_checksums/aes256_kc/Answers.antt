use Rattle.std.proofs.Common.{rules, ◌≡◌, length}
use Rattle.std.proofs.lemmas.Int.{to_z-of_z}
use Rattle.krb_crypto_block.specs.Aes.{aes_block}
use Rattle.krb_crypto_block.specs.Fold.{fold}
use Rattle.krb_crypto_message.specs.WellKnown.{usage_constant}
use Rattle.krb_c_calls.proofs.KeptSums.{held_blocks}
use Rattle.krb_c_calls.proofs.kept_checksums.aes256_kc.Goals as goal

pub returns : goal.returns
returns c =
    let fits = c.ranges.usage in
    let is = c.in_ok-cipher.ensures in
    let made : c.first_block-first.result ≡ aes_block c.in_ok-cipher.cipher (fold (usage_constant c.args.usage 0x99) 128) = simp to_z-of_z at c.first_block-first.ensures in
    let size : length c.concatenated.result ≡ 32 = search rules in (
      is.0,
      held_blocks c.args.key.now c.args.usage c.in_ok-cipher.cipher c.first_block-first.result c.encrypt_block-second.result c.concatenated.result is.0 is.1 made
          c.encrypt_block-second.ensures size c.concatenated.ensures,
    )
