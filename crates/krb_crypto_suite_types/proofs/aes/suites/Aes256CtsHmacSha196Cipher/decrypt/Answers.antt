use Rattle.std.proofs.lemmas.Int.{to_z-of_z}
use Rattle.krb_crypto_suite_types.proofs.aes.suites.Aes256CtsHmacSha196Cipher.decrypt.Goals as goal

pub returns-clause-rejected : goal.returns-clause-rejected
returns-clause-rejected c = let fits = c.ranges.key_usage in simp to_z-of_z at c.decrypt.ensures.rejected
