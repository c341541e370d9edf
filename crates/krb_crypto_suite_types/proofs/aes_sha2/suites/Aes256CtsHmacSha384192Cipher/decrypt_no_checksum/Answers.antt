use Rattle.std.proofs.lemmas.Int.{to_z-of_z}
use Rattle.krb_crypto_suite_types.proofs.aes_sha2.suites.Aes256CtsHmacSha384192Cipher.decrypt_no_checksum.Goals as goal

pub returns-clause-opened : goal.returns-clause-opened
returns-clause-opened c = let fits = c.ranges.key_usage in simp to_z-of_z at c.decrypt_no_checksum.ensures.opened

pub returns-clause-rejected : goal.returns-clause-rejected
returns-clause-rejected c = let fits = c.ranges.key_usage in simp to_z-of_z at c.decrypt_no_checksum.ensures.rejected
