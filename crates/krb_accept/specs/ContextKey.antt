-- The keys of a context's per-message tokens (RFC 4121, 2).
use Rattle.std.specs.Prelude.{◌≡◌, pos, Bool, Option, None, Some}
use Rattle.krb_accept_rules.specs.declared.accepted.Accepted.{Accepted}
use Rattle.krb_crypto.specs.Suites.{etype}
use Rattle.krb_crypto.specs.declared.cipher_suite.CipherSuite.{CipherSuite}
use Rattle.krb_gss_per_message.specs.Keys.{IsTokenKey, Key}
use Rattle.krb_gss_per_message.specs.declared.key.Sender.{Sender}
use Rattle.krb_types.specs.declared.data_types.encryption.EncryptionKey.{EncryptionKey}

-- the first key, or the second where there is none
abbrev pub key_or : Option EncryptionKey → EncryptionKey → EncryptionKey
key_or None other = other
key_or (Some key) other = key

-- the acceptor's subkey; else the initiator's; else the session key
abbrev pub context_key : Accepted → Option EncryptionKey → EncryptionKey
context_key a subkey = key_or subkey (key_or a.subkey a.ticket.key)

-- the key with its suite, for the tokens of this sender
pub record IsTokenKeyOf (key : EncryptionKey) (sender : Sender) (acceptor_subkey : Bool) (k : Key) : Type 0 where
  pub of_suite : key.key_type ≡ pos (etype k.suite)
  pub octets : k.octets ≡ key.key_value
  pub is_key : IsTokenKey k.suite k.octets
  pub sender_is : k.sender ≡ sender
  pub flag : k.acceptor_subkey ≡ acceptor_subkey

-- it is of no suite that RFC 4121 defines tokens of, or has another length
abbrev pub HasNoTokenKey : EncryptionKey → Type 0
HasNoTokenKey key = (suite : CipherSuite) → key.key_type ≡ pos (etype suite) → IsTokenKey suite key.key_value → ⊥
