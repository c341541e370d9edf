use Rattle.std.proofs.Common.{rules, ◌≡◌, ◌≤◌, length, take, ap}
use Rattle.std.proofs.lemmas.Int.{to_z-of_z}
use Rattle.std.proofs.lemmas.List.{length-take-le}
use Rattle.krb_crypto_hash.specs.Hmac.{hmac_384}
use Rattle.krb_crypto_hash.specs.Kdf.{kdf_message}
use Rattle.krb_crypto_message.specs.WellKnown.{usage_constant}
use Rattle.krb_c_calls.proofs.KeptSums.{held_cut}
use Rattle.krb_c_calls.proofs.kept_checksums.sha384_kc.Goals as goal

pub returns : goal.returns
returns c =
    let fits = c.ranges.usage in
    let label : c.usage_kc.result ≡ usage_constant c.args.usage 0x99 = simp to_z-of_z at c.usage_kc.ensures in
    let made : c.kdf_block-block.result ≡ hmac_384 c.args.key.now (kdf_message (usage_constant c.args.usage 0x99) 192) = rw (c.new.ensures, label) at c.kdf_block-block.ensures in
    let size : 24 ≤ length c.kdf_block-block.result = search rules in
    (c.if-key-ne32.false, held_cut 24 c.kdf_block-block.result _ c.filled.result (length-take-le 24 c.kdf_block-block.result size) (ap (take 24) made) c.filled.ensures.octets c.filled.ensures.zeros)
