-- The seed among the random octets.
use Rattle.std.proofs.Common.{◌≡◌, ◌≤◌, ◌/◌, ℕ, List, length, drop, arith}
use Rattle.std.proofs.lemmas.List.{length-take, length-drop}
use Rattle.krb_crypto.specs.BySuite.{seed_bits_of}
use Rattle.krb_crypto.specs.declared.cipher_suite.CipherSuite.{CipherSuite}
use Rattle.krb_crypto.specs.declared.cipher_suite.CipherSuite.TheVariants as suites
use Rattle.krb_c_accept.specs.Replies.{seed_in}

pub seed_suffices : (suite : CipherSuite) (random : List ℕ) → length random ≡ 48 → seed_bits_of suite / 8 ≤ length (seed_in suite random)
seed_suffices suites.Des3CbcSha1Kd random all = omega (arith, all, length-take 21 (drop 16 random), length-drop 16 random)
seed_suffices suites.Aes128CtsHmacSha196 random all = omega (arith, all, length-take 16 (drop 16 random), length-drop 16 random)
seed_suffices suites.Aes128CtsHmacSha256128 random all = omega (arith, all, length-take 16 (drop 16 random), length-drop 16 random)
seed_suffices suites.Aes256CtsHmacSha196 random all = omega (arith, all, length-drop 16 random)
seed_suffices suites.Aes256CtsHmacSha384192 random all = omega (arith, all, length-drop 16 random)
