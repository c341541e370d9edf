-- Parts of messages that are encrypted under a key of the context (RFC 4120, 5.2.9).
use Rattle.std.specs.Prelude.{◌≡◌, ℤ, pos}
use Rattle.krb_crypto.specs.Suites.{etype}
use Rattle.krb_crypto.specs.declared.cipher_suite.CipherSuite.{CipherSuite}
use Rattle.krb_der_core.specs.declared.der.DerEncode.{Ghosts as EncodingOf}
use Rattle.krb_types.specs.declared.data_types.encryption.EncryptedData.{EncryptedData}
use Rattle.krb_types.specs.declared.data_types.encryption.EncryptionKey.{EncryptionKey}
use Rattle.krb_accept.specs.Opening.{SealsValue}

-- The part names the key's encryption type, and its octets are what the suite of that type makes of the encoding of the value,
-- under the key, for this usage and some confounder.
pub record IsSealedWith {A : Type 0} (t : EncodingOf A) (key : EncryptionKey) (usage : ℤ) (sealed : EncryptedData) (v : A) : Type 0 where
  pub suite : CipherSuite
  pub same_type : sealed.etype ≡ key.key_type
  pub of_suite : key.key_type ≡ pos (etype suite)
  pub seals : SealsValue t suite key.key_value usage sealed.cipher v
