use Rattle.std.proofs.Common.{◌∙◌, ap}
use Rattle.std.proofs.lemmas.Int.{to_z-of_z}
use Rattle.std.proofs.lemmas.Result.{IfOk-weaker}
use Rattle.krb_crypto_message.proofs.aes_sha2.prepared.Sha2OpeningKey.new.Goals as goal

pub returns-clause-made : goal.returns-clause-made
returns-clause-made c =
    let fits = c.ranges.key_usage in
    IfOk-weaker c.from_message_keys.result _ _ (λ k h. (
      c.in_ok-keys.ensures.key,
      h.1,
      ap (λ keys. keys.ke) h.2 ∙ c.ke.ensures ∙ (simp to_z-of_z at c.in_ok-keys.ensures.ke),
      ap (λ keys. keys.ki) h.2 ∙ c.ki.ensures ∙ (simp to_z-of_z at c.in_ok-keys.ensures.ki),
    )) c.from_message_keys.ensures.made
