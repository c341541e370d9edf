use Rattle.std.proofs.Common.{rules, ◌≡◌, ℕ, List, length, codes, ◌++◌, take, drop, ap, ◌∙◌}
use Rattle.std.proofs.Math.Seq.{take-append_seam}
use Rattle.std.proofs.lemmas.Result.{IfOk-weaker}
use Rattle.krb_crypto_block.specs.Size.{key_octets}
use Rattle.krb_crypto_message.specs.Derive.{aes_dk}
use Rattle.krb_crypto_message.proofs.Deriving.{password_one}
use Rattle.krb_crypto_message.proofs.aes.key_derivation.derive_key_from_password.Goals as goal

pub returns-clause-made : goal.returns-clause-made
returns-clause-made c =
    let out : List ℕ = c.pbkdf2_hmac_sha1.new.out in
    let count : c.in_ok-seed.seed.len ≡ length out = search rules in
    let long : length out ≡ key_octets c.args.size.now = search rules in
    let seen : c.deref.result.now ≡ out =
    c.deref.ensures.value ∙ ap (λ (k : ℕ). take k (out ++ drop (length out) c.in_ok-seed.seed.items)) count ∙ take-append_seam out (drop (length out) c.in_ok-seed.seed.items) in
    IfOk-weaker c.derive_key.result _ _ (λ key e. password_one (key_octets c.args.size.now) c.args.password.now c.args.salt.now key.items (out, long, c.pbkdf2_hmac_sha1.ensures, e ∙ ap (λ (s : List ℕ). aes_dk s (codes "kerberos")) seen)) c.derive_key.ensures.derived
