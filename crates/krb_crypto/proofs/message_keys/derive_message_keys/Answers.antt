use Rattle.std.proofs.lemmas.Int.{to_z-of_z}
use Rattle.krb_crypto.proofs.message_keys.derive_message_keys.Goals as goal

pub returns-in-Aes128CtsHmacSha256128-clause-ke : goal.returns-in-Aes128CtsHmacSha256128-clause-ke
returns-in-Aes128CtsHmacSha256128-clause-ke c =
    let fits = c.ranges.key_usage in
    rw c.in-Aes128CtsHmacSha256128.is (simp to_z-of_z at c.derive_message_keys-in-Aes128CtsHmacSha256128.ensures.ke)

pub returns-in-Aes128CtsHmacSha256128-clause-ki : goal.returns-in-Aes128CtsHmacSha256128-clause-ki
returns-in-Aes128CtsHmacSha256128-clause-ki c =
    let fits = c.ranges.key_usage in
    rw c.in-Aes128CtsHmacSha256128.is (simp to_z-of_z at c.derive_message_keys-in-Aes128CtsHmacSha256128.ensures.ki)

pub returns-in-Aes256CtsHmacSha384192-clause-ke : goal.returns-in-Aes256CtsHmacSha384192-clause-ke
returns-in-Aes256CtsHmacSha384192-clause-ke c =
    let fits = c.ranges.key_usage in
    rw c.in-Aes256CtsHmacSha384192.is (simp to_z-of_z at c.derive_message_keys-in-Aes256CtsHmacSha384192.ensures.ke)

pub returns-in-Aes256CtsHmacSha384192-clause-ki : goal.returns-in-Aes256CtsHmacSha384192-clause-ki
returns-in-Aes256CtsHmacSha384192-clause-ki c =
    let fits = c.ranges.key_usage in
    rw c.in-Aes256CtsHmacSha384192.is (simp to_z-of_z at c.derive_message_keys-in-Aes256CtsHmacSha384192.ensures.ki)
