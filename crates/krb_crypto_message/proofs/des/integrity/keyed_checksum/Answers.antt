use Rattle.std.proofs.Common.{◌≡◌, ℕ, List, ap, ◌∙◌}
use Rattle.std.proofs.lemmas.Int.{to_z-of_z}
use Rattle.std.proofs.lemmas.Result.{IfOk-weaker}
use Rattle.krb_crypto_hash.specs.Hmac.{hmac}
use Rattle.krb_crypto_message.specs.Sealed.{des3_kc}
use Rattle.krb_crypto_message.proofs.des.integrity.keyed_checksum.Goals as goal

pub returns-clause-checksum : goal.returns-clause-checksum
returns-clause-checksum c =
    let fits = c.ranges.key_usage in
    let kc : c.in_ok-new.field-0 ≡ des3_kc c.args.key.now c.args.key_usage = simp to_z-of_z at c.in_ok-new.ensures.made.1 in
    IfOk-weaker c.checksum.result _ _ (λ made is. is ∙ ap (λ (k : List ℕ). hmac k c.args.payload.now) kc) c.checksum.ensures.checksum
