-- Encryption types that were asked for (RFC 4120, 5.4.1).
use Rattle.std.specs.Prelude.{◌≡◌, ℤ, pos, List, Contains}
use Rattle.krb_crypto.specs.Suites.{etype}
use Rattle.krb_crypto.specs.declared.cipher_suite.CipherSuite.{CipherSuite}

-- the number is the encryption type of one of these suites
pub record IsAskedFor (suites : List CipherSuite) (number : ℤ) : Type 0 where
  pub suite : CipherSuite
  pub asked : Contains suites suite
  pub is : number ≡ pos (etype suite)
