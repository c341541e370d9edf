use Rattle.krb_crypto.proofs.suite_ciphers.CipherSuiteCipher.generate_key_from_password.Goals as goal

pub returns-in-Aes128CtsHmacSha196-clause-made : goal.returns-in-Aes128CtsHmacSha196-clause-made
returns-in-Aes128CtsHmacSha196-clause-made c = rw c.in-Aes128CtsHmacSha196.is c.derive_key_from_password.ensures.made

pub returns-in-Aes256CtsHmacSha196-clause-made : goal.returns-in-Aes256CtsHmacSha196-clause-made
returns-in-Aes256CtsHmacSha196-clause-made c = rw c.in-Aes256CtsHmacSha196.is c.derive_key_from_password-in-Aes256CtsHmacSha196.ensures.made

pub returns-in-Aes128CtsHmacSha256128-clause-made : goal.returns-in-Aes128CtsHmacSha256128-clause-made
returns-in-Aes128CtsHmacSha256128-clause-made c = rw c.in-Aes128CtsHmacSha256128.is c.derive_key_from_password-in-Aes128CtsHmacSha256128.ensures.made

pub returns-in-Aes256CtsHmacSha384192-clause-made : goal.returns-in-Aes256CtsHmacSha384192-clause-made
returns-in-Aes256CtsHmacSha384192-clause-made c = rw c.in-Aes256CtsHmacSha384192.is c.derive_key_from_password-in-Aes256CtsHmacSha384192.ensures.made
