use Rattle.std.proofs.lemmas.Int.{to_z-of_z}
use Rattle.krb_crypto.proofs.suite_ciphers.CipherSuiteCipher.decrypt_no_checksum.Goals as goal

pub returns-in-Aes128CtsHmacSha196-clause-opened : goal.returns-in-Aes128CtsHmacSha196-clause-opened
returns-in-Aes128CtsHmacSha196-clause-opened c = let fits = c.ranges.key_usage in rw c.in-Aes128CtsHmacSha196.is (simp to_z-of_z at c.decrypt_message_no_checksum.ensures.opened)

pub returns-in-Aes128CtsHmacSha196-clause-rejected : goal.returns-in-Aes128CtsHmacSha196-clause-rejected
returns-in-Aes128CtsHmacSha196-clause-rejected c = let fits = c.ranges.key_usage in rw c.in-Aes128CtsHmacSha196.is (simp to_z-of_z at c.decrypt_message_no_checksum.ensures.rejected)

pub returns-in-Aes256CtsHmacSha196-clause-opened : goal.returns-in-Aes256CtsHmacSha196-clause-opened
returns-in-Aes256CtsHmacSha196-clause-opened c = let fits = c.ranges.key_usage in rw c.in-Aes256CtsHmacSha196.is (simp to_z-of_z at c.decrypt_message_no_checksum-in-Aes256CtsHmacSha196.ensures.opened)

pub returns-in-Aes256CtsHmacSha196-clause-rejected : goal.returns-in-Aes256CtsHmacSha196-clause-rejected
returns-in-Aes256CtsHmacSha196-clause-rejected c = let fits = c.ranges.key_usage in rw c.in-Aes256CtsHmacSha196.is (simp to_z-of_z at c.decrypt_message_no_checksum-in-Aes256CtsHmacSha196.ensures.rejected)

pub returns-in-Des3CbcSha1Kd-clause-opened : goal.returns-in-Des3CbcSha1Kd-clause-opened
returns-in-Des3CbcSha1Kd-clause-opened c = let fits = c.ranges.key_usage in rw c.in-Des3CbcSha1Kd.is (simp to_z-of_z at c.decrypt_message_no_checksum-in-Des3CbcSha1Kd.ensures.opened)

pub returns-in-Des3CbcSha1Kd-clause-rejected : goal.returns-in-Des3CbcSha1Kd-clause-rejected
returns-in-Des3CbcSha1Kd-clause-rejected c = let fits = c.ranges.key_usage in rw c.in-Des3CbcSha1Kd.is (simp to_z-of_z at c.decrypt_message_no_checksum-in-Des3CbcSha1Kd.ensures.rejected)

pub returns-in-Aes128CtsHmacSha256128-clause-opened : goal.returns-in-Aes128CtsHmacSha256128-clause-opened
returns-in-Aes128CtsHmacSha256128-clause-opened c = let fits = c.ranges.key_usage in rw c.in-Aes128CtsHmacSha256128.is (simp to_z-of_z at c.decrypt_message_no_checksum-in-Aes128CtsHmacSha256128.ensures.opened)

pub returns-in-Aes128CtsHmacSha256128-clause-ki : goal.returns-in-Aes128CtsHmacSha256128-clause-ki
returns-in-Aes128CtsHmacSha256128-clause-ki c = let fits = c.ranges.key_usage in rw c.in-Aes128CtsHmacSha256128.is (simp to_z-of_z at c.decrypt_message_no_checksum-in-Aes128CtsHmacSha256128.ensures.ki)

pub returns-in-Aes128CtsHmacSha256128-clause-rejected : goal.returns-in-Aes128CtsHmacSha256128-clause-rejected
returns-in-Aes128CtsHmacSha256128-clause-rejected c = let fits = c.ranges.key_usage in rw c.in-Aes128CtsHmacSha256128.is (simp to_z-of_z at c.decrypt_message_no_checksum-in-Aes128CtsHmacSha256128.ensures.rejected)

pub returns-in-Aes256CtsHmacSha384192-clause-opened : goal.returns-in-Aes256CtsHmacSha384192-clause-opened
returns-in-Aes256CtsHmacSha384192-clause-opened c = let fits = c.ranges.key_usage in rw c.in-Aes256CtsHmacSha384192.is (simp to_z-of_z at c.decrypt_message_no_checksum-in-Aes256CtsHmacSha384192.ensures.opened)

pub returns-in-Aes256CtsHmacSha384192-clause-ki : goal.returns-in-Aes256CtsHmacSha384192-clause-ki
returns-in-Aes256CtsHmacSha384192-clause-ki c = let fits = c.ranges.key_usage in rw c.in-Aes256CtsHmacSha384192.is (simp to_z-of_z at c.decrypt_message_no_checksum-in-Aes256CtsHmacSha384192.ensures.ki)

pub returns-in-Aes256CtsHmacSha384192-clause-rejected : goal.returns-in-Aes256CtsHmacSha384192-clause-rejected
returns-in-Aes256CtsHmacSha384192-clause-rejected c = let fits = c.ranges.key_usage in rw c.in-Aes256CtsHmacSha384192.is (simp to_z-of_z at c.decrypt_message_no_checksum-in-Aes256CtsHmacSha384192.ensures.rejected)
