use Rattle.std.proofs.lemmas.Result.{IfOk-weaker}
use Rattle.krb_client.proofs.keys.seeds.aes256_key.Goals as goal

pub returns : goal.returns
returns c =
    IfOk-weaker c.derive_key.result _ _ (λ _ h. (c.pbkdf2_hmac_sha1.new.out, search, c.pbkdf2_hmac_sha1.ensures, h)) c.derive_key.ensures.derived
