-- What the suites of AES have in common.
use Rattle.std.proofs.Common.{◌≡◌, refl}
use Rattle.krb_crypto.specs.BySuite.{confounder_octets_of, padding_octets_of}
use Rattle.krb_crypto.specs.declared.cipher_suite.CipherSuite.{CipherSuite}
use Rattle.krb_crypto.specs.declared.cipher_suite.CipherSuite.TheVariants.{Aes128CtsHmacSha196, Aes256CtsHmacSha196, Des3CbcSha1Kd, Aes128CtsHmacSha256128, Aes256CtsHmacSha384192}
use Rattle.krb_gss_per_message.specs.Keys.{IsNewer}

pub newer_confounder : (suite : CipherSuite) → IsNewer suite → confounder_octets_of suite ≡ 16
newer_confounder Aes128CtsHmacSha196 newer = refl
newer_confounder Aes256CtsHmacSha196 newer = refl
newer_confounder Des3CbcSha1Kd newer = absurd newer
newer_confounder Aes128CtsHmacSha256128 newer = refl
newer_confounder Aes256CtsHmacSha384192 newer = refl

pub newer_padding : (suite : CipherSuite) → IsNewer suite → padding_octets_of suite ≡ 1
newer_padding Aes128CtsHmacSha196 newer = refl
newer_padding Aes256CtsHmacSha196 newer = refl
newer_padding Des3CbcSha1Kd newer = absurd newer
newer_padding Aes128CtsHmacSha256128 newer = refl
newer_padding Aes256CtsHmacSha384192 newer = refl
