-- The octets of a key.
use Rattle.std.specs.Prelude.{ℕ}
use Rattle.krb_crypto_block.specs.declared.aes.AesSize.{AesSize}
use Rattle.krb_crypto_block.specs.declared.aes.AesSize.TheVariants.{Aes256, Aes128}

abbrev pub key_octets : AesSize → ℕ
key_octets Aes256 = 32
key_octets Aes128 = 16
