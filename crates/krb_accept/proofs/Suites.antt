-- A number is of one suite.
use Rattle.std.proofs.Common.{◌≡◌, ℕ, pos, ◌==◌, if◌then◌else◌, refl, sym, ap, ◌∙◌}
use Rattle.krb_crypto.specs.Suites.{etype}
use Rattle.krb_crypto.specs.declared.cipher_suite.CipherSuite.{CipherSuite}
use Rattle.krb_crypto.specs.declared.cipher_suite.CipherSuite.TheVariants as cipher

suite_at : ℕ → CipherSuite
suite_at n =
    if n == 16 then cipher.Des3CbcSha1Kd else if n == 17 then cipher.Aes128CtsHmacSha196 else if n == 18 then cipher.Aes256CtsHmacSha196
    else if n == 19 then cipher.Aes128CtsHmacSha256128 else cipher.Aes256CtsHmacSha384192

back : (s : CipherSuite) → suite_at (etype s) ≡ s
unfolding suite_at
back cipher.Des3CbcSha1Kd = refl
back cipher.Aes128CtsHmacSha196 = refl
back cipher.Aes256CtsHmacSha196 = refl
back cipher.Aes128CtsHmacSha256128 = refl
back cipher.Aes256CtsHmacSha384192 = refl

same_numbers : (m n : ℕ) → pos m ≡ pos n → m ≡ n
same_numbers m n e = cc

pub one_suite : (s t : CipherSuite) → pos (etype s) ≡ pos (etype t) → s ≡ t
one_suite s t e = sym (back s) ∙ ap suite_at (same_numbers (etype s) (etype t) e) ∙ back t
