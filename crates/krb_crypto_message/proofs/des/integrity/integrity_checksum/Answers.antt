use Rattle.std.proofs.Common.{rules, ◌≡◌, List, ℕ, ap, ◌∙◌}
use Rattle.krb_crypto_hash.specs.Hmac.{hmac}
use Rattle.krb_crypto_message.specs.Sealed.{des3_ki}
use Rattle.krb_crypto_message.proofs.Messages.{whole_mac}
use Rattle.krb_crypto_message.proofs.des.integrity.integrity_checksum.Goals as goal

pub returns-clause-checksum : goal.returns-clause-checksum
returns-clause-checksum c =
    let derived : c.derived_key-ki.result ≡ des3_ki c.args.key.now c.args.key_usage = search rules in
    whole_mac c.derived_key-ki.result c.args.payload.now c.in_ok-hmac_sha1.field-0.items (search rules) ∙ ap (λ (k : List ℕ). hmac k c.args.payload.now) derived
