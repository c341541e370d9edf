-- What octets encode, and what is sealed to octets (RFC 3961, 5.3).
use Rattle.std.specs.Prelude.{◌≡◌, ℕ, ℤ, List, length}
use Rattle.krb_crypto_message.specs.Sealing.{IsGiven}
use Rattle.krb_crypto.specs.BySuite.{IsSealed, confounder_octets_of, key_octets_of}
use Rattle.krb_crypto.specs.declared.cipher_suite.CipherSuite.{CipherSuite}
use Rattle.krb_der_core.specs.declared.der.DerEncode.{Ghosts as EncodingOf}

-- the octets are the one encoding of the value (X.690, 10)
abbrev pub Encodes : {A : Type 0} → EncodingOf A → List ℕ → A → Type 0
Encodes t octets v = t.is_value v × (octets ≡ t.enc v)

-- the key has the suite's length, and for this usage some confounder of the suite's length gives these octets for the payload
pub record IsSealedTo (suite : CipherSuite) (key : List ℕ) (usage : ℤ) (octets payload : List ℕ) : Type 0 where
  pub size : length key ≡ key_octets_of suite
  pub given : IsGiven (IsSealed suite key usage) (confounder_octets_of suite) octets payload

-- they are given for the value's encoding
abbrev pub SealsValue : {A : Type 0} → EncodingOf A → CipherSuite → List ℕ → ℤ → List ℕ → A → Type 0
SealsValue t suite key usage octets v = t.is_value v × IsSealedTo suite key usage octets (t.enc v)
