-- Checksums are short.
use Rattle.std.proofs.Common.{ℕ, ℤ, ◌<◌, ◌^◌, List, length, arith}
use Rattle.std.proofs.lemmas.List.{length-take}
use Rattle.krb_crypto_hash.proofs.HmacSteps.{hmac_size}
use Rattle.krb_crypto_hash.specs.Hmac.{hmac, hmac_256, hmac_384}
use Rattle.krb_crypto_block.specs.declared.aes.AesSize.TheVariants.{Aes128, Aes256}
use Rattle.krb_crypto_message.specs.AesSha2.{sha2_kc}
use Rattle.krb_crypto_message.specs.Sealed.{aes_kc, des3_kc}
use Rattle.krb_crypto.specs.BySuite.{sum_of}
use Rattle.krb_crypto.specs.declared.checksum_suite.ChecksumSuite.{ChecksumSuite}
use Rattle.krb_crypto.specs.declared.checksum_suite.ChecksumSuite.TheVariants as checksum

pub sum_short : (suite : ChecksumSuite) (key : List ℕ) (usage : ℤ) (m : List ℕ) → length (sum_of suite key usage m) < 2 ^ 16
sum_short checksum.HmacSha196Aes128 key usage m = omega (arith, length-take 12 (hmac (aes_kc key usage) m))
sum_short checksum.HmacSha196Aes256 key usage m = omega (arith, length-take 12 (hmac (aes_kc key usage) m))
sum_short checksum.HmacSha1Des3Kd key usage m = omega (arith, hmac_size (des3_kc key usage) m)
sum_short checksum.HmacSha256128Aes128 key usage m = omega (arith, length-take 16 (hmac_256 (sha2_kc Aes128 key usage) m))
sum_short checksum.HmacSha384192Aes256 key usage m = omega (arith, length-take 24 (hmac_384 (sha2_kc Aes256 key usage) m))
