-- Keys of tokens, and the flags and key usages that follow of them (RFC 4121, 2 and 4.2.2).
use Rattle.std.specs.Prelude.{◌≡◌, ◌≢◌, ◌⊎◌, ℕ, ℤ, pos, ◌+◌, ◌*◌, Bool, true, false, List, length}
use Rattle.std.specs.Int.{bit_at}
use Rattle.krb_crypto_hash.specs.declared.error.KerberosCryptoError.{KerberosCryptoError}
use Rattle.krb_crypto_hash.specs.declared.error.KerberosCryptoError.TheVariants.{AlgorithmIdentifier, KeyLength}
use Rattle.krb_crypto.specs.BySuite.{key_octets_of}
use Rattle.krb_crypto.specs.Suites.{etype}
use Rattle.krb_crypto.specs.declared.cipher_suite.CipherSuite.{CipherSuite}
use Rattle.krb_crypto.specs.declared.cipher_suite.CipherSuite.TheVariants.{Aes128CtsHmacSha196, Aes256CtsHmacSha196, Des3CbcSha1Kd, Aes128CtsHmacSha256128, Aes256CtsHmacSha384192}
use Rattle.krb_gss_per_message.specs.declared.key.Sender.{Sender}
use Rattle.krb_gss_per_message.specs.declared.key.Sender.TheVariants.{Initiator, Acceptor}

-- what a contract sees of a key: the octets as a list
pub record Key : Type 0 where
  pub suite : CipherSuite
  pub octets : List ℕ
  pub sender : Sender
  pub acceptor_subkey : Bool

-- ---- keys that there are

-- an encryption type whose tokens RFC 4121 defines: not triple DES, whose tokens are those of RFC 1964
abbrev pub IsNewer : CipherSuite → Type 0
IsNewer Aes128CtsHmacSha196 = Unit {0}
IsNewer Aes256CtsHmacSha196 = Unit {0}
IsNewer Des3CbcSha1Kd = ⊥
IsNewer Aes128CtsHmacSha256128 = Unit {0}
IsNewer Aes256CtsHmacSha384192 = Unit {0}

-- such a suite, and as many octets as its keys have
pub record IsTokenKey (suite : CipherSuite) (octets : List ℕ) : Type 0 where
  pub newer : IsNewer suite
  pub size : length octets ≡ key_octets_of suite

-- the suite is another; else the key has another length
abbrev pub RefusesTokenKey : CipherSuite → List ℕ → KerberosCryptoError → Type 0
RefusesTokenKey suite octets e =
    (¬ IsNewer suite × (e ≡ AlgorithmIdentifier (etype suite)))
    ⊎ (IsNewer suite × (length octets ≢ key_octets_of suite) × (e ≡ KeyLength (length octets) (key_octets_of suite)))

-- ---- key usages (RFC 4121, 2)

-- of MIC tokens: KG-USAGE-ACCEPTOR-SIGN and KG-USAGE-INITIATOR-SIGN
abbrev pub sign_usage_of : Sender → ℤ
sign_usage_of Acceptor = pos 23
sign_usage_of Initiator = pos 25

-- of Wrap tokens: KG-USAGE-ACCEPTOR-SEAL and KG-USAGE-INITIATOR-SEAL
abbrev pub seal_usage_of : Sender → ℤ
seal_usage_of Acceptor = pos 22
seal_usage_of Initiator = pos 24

-- ---- flags (RFC 4121, 4.2.2)

-- 1 where it is so
abbrev pub bit_of : Bool → ℕ
bit_of false = 0
bit_of true = 1

-- bit 0, SentByAcceptor
abbrev pub sender_bit : Sender → ℕ
sender_bit Initiator = 0
sender_bit Acceptor = 1

-- bit 0, SentByAcceptor; bit 1, Sealed; bit 2, AcceptorSubkey
abbrev pub flags_of : Key → Bool → ℕ
flags_of key sealed = sender_bit key.sender + 2 * bit_of sealed + 4 * bit_of key.acceptor_subkey

abbrev pub IsSentBy : Key → ℕ → Type 0
IsSentBy key flags = bit_at flags 0 ≡ sender_bit key.sender

abbrev pub IsSealedFlag : Bool → ℕ → Type 0
IsSealedFlag sealed flags = bit_at flags 1 ≡ bit_of sealed

abbrev pub IsUnderSubkeyOf : Key → ℕ → Type 0
IsUnderSubkeyOf key flags = bit_at flags 2 ≡ bit_of key.acceptor_subkey

-- The flags are those of a token of this key, sealed or not. The other bits are reserved: a receiver ignores them.
pub record AreFlagsOf (key : Key) (sealed : Bool) (flags : ℕ) : Type 0 where
  pub sender : IsSentBy key flags
  pub sealed_is : IsSealedFlag sealed flags
  pub subkey : IsUnderSubkeyOf key flags
