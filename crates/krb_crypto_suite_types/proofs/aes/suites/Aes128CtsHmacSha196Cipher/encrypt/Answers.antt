use Rattle.std.proofs.lemmas.Int.{to_z-of_z}
use Rattle.krb_crypto_suite_types.proofs.aes.suites.Aes128CtsHmacSha196Cipher.encrypt.Goals as goal

pub returns-clause-sealed : goal.returns-clause-sealed
returns-clause-sealed c = let fits = c.ranges.key_usage in simp to_z-of_z at c.encrypt.ensures.sealed
