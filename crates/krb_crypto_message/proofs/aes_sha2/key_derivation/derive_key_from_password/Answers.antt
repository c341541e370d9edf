use Rattle.std.proofs.Common.{rules, ◌≡◌, ℕ, List, length, codes, ◌++◌, take, drop, refl, ap, subst, ◌∙◌}
use Rattle.std.proofs.Math.Seq.{take-append_seam}
use Rattle.krb_crypto_hash.specs.Pbkdf2.{IsPbkdf2Over}
use Rattle.krb_crypto_block.specs.Size.{key_octets}
use Rattle.krb_crypto_message.specs.AesSha2.{sha2_kdf, sha2_hmac, sha2_hmac_octets, sha2_salt}
use Rattle.krb_crypto_message.proofs.Sha2Messages.{derived_for, sha2_password_one}
use Rattle.krb_crypto_message.proofs.aes_sha2.key_derivation.derive_key_from_password.Goals as goal

pub returns-clause-made : goal.returns-clause-made
returns-clause-made c =
    let size = c.args.size.now in
    let out : List ℕ = c.stretch.new.out in
    let count : c.in_ok-seed.seed.len ≡ length out = search rules in
    let long : length out ≡ key_octets size = search rules in
    let seen : c.deref-2.result.now ≡ out =
    c.deref-2.ensures.value ∙ ap (λ (k : ℕ). take k (out ++ drop (length out) c.in_ok-seed.seed.items)) count ∙ take-append_seam out (drop (length out) c.in_ok-seed.seed.items) in
    let salt : c.deref.result.now ≡ sha2_salt size c.args.salt.now = c.deref.ensures.value ∙ c.in_ok-named.ensures in
    let stretched : IsPbkdf2Over (sha2_hmac size) (sha2_hmac_octets size) c.args.password.now (sha2_salt size c.args.salt.now) 32768 out =
    subst (λ s. IsPbkdf2Over (sha2_hmac size) (sha2_hmac_octets size) c.args.password.now s 32768 out) salt c.stretch.ensures in
    let under = rw (c.new.ensures.size, c.new.ensures.key) at c.derived-key.ensures.derived in
    let derived = derived_for size c.deref-2.result.now _ (codes "kerberos") _ _ _ under refl c.key_length-2.ensures
    ∙ ap (λ (s : List ℕ). sha2_kdf size s (codes "kerberos") (key_octets size)) seen in
    sha2_password_one size c.args.password.now c.args.salt.now c.in_ok-from_slice.field-0.items (out, long, stretched, c.in_ok-from_slice.ensures.items ∙ c.as_slice.ensures ∙ derived)
