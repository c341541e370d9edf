-- Derived keys of a suite of RFC 8009 (section 5), and the size of the key that they are derived from.
use Rattle.std.specs.Prelude.{ℕ, List}
use Rattle.krb_crypto_block.specs.declared.aes.AesSize.{AesSize}
use Rattle.krb_crypto_message.specs.DerivedKeys.{DerivedKeys}

-- Ke and Ki
pub record SizedKeys : Type 0 where
  pub size : AesSize
  pub keys : DerivedKeys

-- Kc
pub record SizedKey : Type 0 where
  pub size : AesSize
  pub octets : List ℕ
