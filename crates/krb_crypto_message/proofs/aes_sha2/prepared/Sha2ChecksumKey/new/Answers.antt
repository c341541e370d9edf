use Rattle.std.proofs.Common.{◌≡◌, ◌∙◌}
use Rattle.std.proofs.lemmas.Int.{to_z-of_z}
use Rattle.krb_crypto_message.specs.AesSha2.{sha2_kc}
use Rattle.krb_crypto_message.specs.WellKnown.{usage_constant}
use Rattle.krb_crypto_message.proofs.Sha2Messages.{derived_for}
use Rattle.krb_crypto_message.proofs.aes_sha2.prepared.Sha2ChecksumKey.new.Goals as goal

pub returns-clause-made : goal.returns-clause-made
returns-clause-made c =
    let fits = c.ranges.key_usage in
    let size = c.args.size.now in
    let key = c.args.key.now in
    let label : c.usage_kc.result ≡ usage_constant c.args.key_usage 0x99 = simp to_z-of_z at c.usage_kc.ensures in
    let derived = rw (c.new.ensures.size, c.new.ensures.key) at c.derived-kc.ensures.derived in
    let kc : c.as_slice.result.now ≡ sha2_kc size key c.args.key_usage = c.as_slice.ensures ∙ derived_for size key _ _ _ _ _ derived label c.checksum_size.ensures in
    (c.in_ok-test_key.ensures, c.new-2.ensures.size, c.new-2.ensures.key ∙ kc)
