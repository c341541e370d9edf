use Rattle.std.proofs.lemmas.Int.{to_z-of_z}
use Rattle.std.proofs.lemmas.Result.{IfOk-weaker}
use Rattle.krb_crypto_message.proofs.aes_sha2.message.opening_keys.Goals as goal

pub returns-clause-ke : goal.returns-clause-ke
returns-clause-ke c =
    let fits = c.ranges.key_usage in
    IfOk-weaker c.new.result _ _ (λ k made. simp to_z-of_z at made.2) c.new.ensures.made

pub returns-clause-ki : goal.returns-clause-ki
returns-clause-ki c =
    let fits = c.ranges.key_usage in
    IfOk-weaker c.new.result _ _ (λ k made. simp to_z-of_z at made.3) c.new.ensures.made
