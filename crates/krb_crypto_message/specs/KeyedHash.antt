-- The size of a suite's keys and the key of its HMAC (RFC 8009, 5).
use Rattle.std.specs.Prelude.{ℕ, List}
use Rattle.krb_crypto_block.specs.declared.aes.AesSize.{AesSize}
use Rattle.krb_crypto_block.specs.declared.aes.AesSize.TheVariants.{Aes256, Aes128}
use Rattle.krb_crypto_message.specs.declared.aes_sha2.keyed_hash.KeyedHash.{KeyedHash}
use Rattle.krb_crypto_message.specs.declared.aes_sha2.keyed_hash.KeyedHash.TheVariants.{Sha256, Sha384}

abbrev pub size_of : KeyedHash → AesSize
size_of (Sha256 key) = Aes128
size_of (Sha384 key) = Aes256

abbrev pub key_of : KeyedHash → List ℕ
key_of (Sha256 key) = key
key_of (Sha384 key) = key
