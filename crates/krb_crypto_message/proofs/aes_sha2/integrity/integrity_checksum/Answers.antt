use Rattle.std.proofs.Common.{◌≡◌, ◌∙◌}
use Rattle.std.proofs.lemmas.Int.{to_z-of_z}
use Rattle.krb_crypto_message.specs.AesSha2.{sha2_ki}
use Rattle.krb_crypto_message.specs.WellKnown.{usage_constant}
use Rattle.krb_crypto_message.proofs.Sha2Messages.{derived_for}
use Rattle.krb_crypto_message.proofs.aes_sha2.integrity.integrity_checksum.Goals as goal

pub returns-clause-checksum : goal.returns-clause-checksum
returns-clause-checksum c =
    let fits = c.ranges.key_usage in
    let size = c.args.size.now in
    let key = c.args.key.now in
    let label : c.usage_ki.result ≡ usage_constant c.args.key_usage 0x55 = simp to_z-of_z at c.usage_ki.ensures in
    let derived = rw (c.new.ensures.size, c.new.ensures.key) at c.derived-ki.ensures.derived in
    let ki : c.as_slice.result.now ≡ sha2_ki size key c.args.key_usage = c.as_slice.ensures ∙ derived_for size key _ _ _ _ _ derived label c.checksum_size.ensures in
    c.in_ok-from_slice.ensures.items ∙ c.as_slice-2.ensures ∙ rw (c.new-2.ensures.size, c.new-2.ensures.key, ki) at c.mac-checksum.ensures.mac
