use Rattle.std.proofs.lemmas.Int.{to_z-of_z}
use Rattle.krb_crypto.proofs.suite_ciphers.CipherSuiteCipher.encryption_checksum.Goals as goal

pub returns-in-Aes128CtsHmacSha256128-clause-checksum : goal.returns-in-Aes128CtsHmacSha256128-clause-checksum
returns-in-Aes128CtsHmacSha256128-clause-checksum c = let fits = c.ranges.key_usage in rw c.in-Aes128CtsHmacSha256128.is (simp to_z-of_z at c.integrity_checksum-in-Aes128CtsHmacSha256128.ensures.checksum)

pub returns-in-Aes256CtsHmacSha384192-clause-checksum : goal.returns-in-Aes256CtsHmacSha384192-clause-checksum
returns-in-Aes256CtsHmacSha384192-clause-checksum c = let fits = c.ranges.key_usage in rw c.in-Aes256CtsHmacSha384192.is (simp to_z-of_z at c.integrity_checksum-in-Aes256CtsHmacSha384192.ensures.checksum)
