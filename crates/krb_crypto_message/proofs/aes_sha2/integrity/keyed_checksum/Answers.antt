use Rattle.std.proofs.Common.{◌≡◌}
use Rattle.std.proofs.lemmas.Int.{to_z-of_z}
use Rattle.std.proofs.lemmas.Result.{IfOk-weaker}
use Rattle.krb_crypto_message.specs.AesSha2.{sha2_kc}
use Rattle.krb_crypto_message.proofs.aes_sha2.integrity.keyed_checksum.Goals as goal

pub returns-clause-checksum : goal.returns-clause-checksum
returns-clause-checksum c =
    let fits = c.ranges.key_usage in
    let key = c.in_ok-new.field-0 in
    let size : key.size ≡ c.args.size.now = c.in_ok-new.ensures.made.1 in
    let kc : key.octets ≡ sha2_kc c.args.size.now c.args.key.now c.args.key_usage = simp to_z-of_z at c.in_ok-new.ensures.made.2 in
    IfOk-weaker c.checksum.result _ _ (λ made is. rw (size, kc) at is) c.checksum.ensures.checksum
