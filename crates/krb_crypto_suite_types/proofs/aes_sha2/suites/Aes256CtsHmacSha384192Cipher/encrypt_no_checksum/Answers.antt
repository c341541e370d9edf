use Rattle.std.proofs.lemmas.Int.{to_z-of_z}
use Rattle.krb_crypto_suite_types.proofs.aes_sha2.suites.Aes256CtsHmacSha384192Cipher.encrypt_no_checksum.Goals as goal

pub returns-clause-encrypted : goal.returns-clause-encrypted
returns-clause-encrypted c = let fits = c.ranges.key_usage in simp to_z-of_z at c.encrypt_no_checksum.ensures.encrypted
