use Rattle.std.proofs.Common.{◌≡◌}
use Rattle.std.proofs.lemmas.Int.{to_z-of_z}
use Rattle.krb_crypto_message.specs.WellKnown.{usage_constant}
use Rattle.krb_crypto_message.proofs.Sha2Messages.{derived_for}
use Rattle.krb_crypto_message.proofs.aes_sha2.message_keys.derive_message_keys.Goals as goal

pub returns-clause-ke : goal.returns-clause-ke
returns-clause-ke c =
    let fits = c.ranges.key_usage in
    let label : c.usage_ke.result ≡ usage_constant c.args.key_usage 0xaa = simp to_z-of_z at c.usage_ke.ensures in
    let derived = rw (c.new-base.ensures.size, c.new-base.ensures.key) at c.derived-ke.ensures.derived in
    rw c.new.ensures (derived_for c.args.size.now c.args.key.now _ _ _ _ _ derived label c.key_length.ensures)

pub returns-clause-ki : goal.returns-clause-ki
returns-clause-ki c =
    let fits = c.ranges.key_usage in
    let label : c.usage_ki.result ≡ usage_constant c.args.key_usage 0x55 = simp to_z-of_z at c.usage_ki.ensures in
    let derived = rw (c.new-base.ensures.size, c.new-base.ensures.key) at c.derived-ki.ensures.derived in
    rw c.new.ensures (derived_for c.args.size.now c.args.key.now _ _ _ _ _ derived label c.checksum_size.ensures)
