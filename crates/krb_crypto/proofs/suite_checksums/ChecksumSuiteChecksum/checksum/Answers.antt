use Rattle.std.proofs.lemmas.Int.{to_z-of_z}
use Rattle.krb_crypto.proofs.suite_checksums.ChecksumSuiteChecksum.checksum.Goals as goal

pub returns-in-HmacSha256128Aes128-clause-checksum : goal.returns-in-HmacSha256128Aes128-clause-checksum
returns-in-HmacSha256128Aes128-clause-checksum c = let fits = c.ranges.key_usage in rw c.in-HmacSha256128Aes128.is (simp to_z-of_z at c.keyed_checksum-in-HmacSha256128Aes128.ensures.checksum)

pub returns-in-HmacSha384192Aes256-clause-checksum : goal.returns-in-HmacSha384192Aes256-clause-checksum
returns-in-HmacSha384192Aes256-clause-checksum c = let fits = c.ranges.key_usage in rw c.in-HmacSha384192Aes256.is (simp to_z-of_z at c.keyed_checksum-in-HmacSha384192Aes256.ensures.checksum)
