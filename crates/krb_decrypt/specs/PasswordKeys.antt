-- The keys that a password gives with salts (RFC 3961, 3; RFC 3962, 4; RFC 8009, 4).
use Rattle.std.specs.Prelude.{◌≡◌, ◌⊎◌, ℕ, List, [], ◌∷◌, ◌++◌, codes}
use Rattle.krb_crypto_message.specs.Sealing.{IsOfNone, IsTheOne}
use Rattle.krb_crypto.specs.BySuite.{IsPasswordKey}
use Rattle.krb_crypto.specs.declared.cipher_suite.CipherSuite.{CipherSuite}
use Rattle.krb_crypto.specs.declared.cipher_suite.CipherSuite.TheVariants as suites
use Rattle.krb_decrypt.specs.Keys.{NamedKey}

-- the name of a key that a password gives
abbrev pub password_name : List ℕ → List ℕ
password_name salt = codes "password, salt " ++ salt

-- the key of a suite, or none where the password and the salt give none (a weak key of DES)
abbrev pub KeyUnder : List ℕ → List ℕ → CipherSuite → List NamedKey → Type 0
KeyUnder password salt suite keys =
    ((key : List ℕ) × IsTheOne (IsPasswordKey suite password salt) key × (keys ≡ record { suite = suite; octets = key; name = password_name salt } ∷ []))
    ⊎ (IsOfNone (IsPasswordKey suite password salt) × (keys ≡ []))

-- those of the five suites
pub record KeysOfSalt (password salt : List ℕ) (keys : List NamedKey) : Type 0 where
  pub aes128 : List NamedKey
  pub is_aes128 : KeyUnder password salt suites.Aes128CtsHmacSha196 aes128
  pub aes256 : List NamedKey
  pub is_aes256 : KeyUnder password salt suites.Aes256CtsHmacSha196 aes256
  pub aes128_sha2 : List NamedKey
  pub is_aes128_sha2 : KeyUnder password salt suites.Aes128CtsHmacSha256128 aes128_sha2
  pub aes256_sha2 : List NamedKey
  pub is_aes256_sha2 : KeyUnder password salt suites.Aes256CtsHmacSha384192 aes256_sha2
  pub des3 : List NamedKey
  pub is_des3 : KeyUnder password salt suites.Des3CbcSha1Kd des3
  pub all : keys ≡ aes128 ++ aes256 ++ aes128_sha2 ++ aes256_sha2 ++ des3

-- those of each, in their order
abbrev pub OfEach : {X : Type 0} → (X → List NamedKey → Type 0) → List X → List NamedKey → Type 0
OfEach gives [] keys = keys ≡ []
OfEach gives (x ∷ xs) keys = (mine : List NamedKey) × (more : List NamedKey) × gives x mine × OfEach gives xs more × (keys ≡ mine ++ more)

-- those of salts
abbrev pub KeysOfSalts : List ℕ → List (List ℕ) → List NamedKey → Type 0
KeysOfSalts password = OfEach (KeysOfSalt password)

-- those of passwords, each with all salts
abbrev pub KeysOfPasswords : List (List ℕ) → List (List ℕ) → List NamedKey → Type 0
KeysOfPasswords passwords salts = OfEach (λ password. KeysOfSalts password salts) passwords

-- more keys stand behind those that there were
abbrev pub adds : (List NamedKey → Type 0) → List NamedKey → List NamedKey → Type 0
adds are old new = (more : List NamedKey) × are more × (new ≡ old ++ more)
