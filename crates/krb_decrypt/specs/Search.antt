-- The first key and key usage under which octets are encrypted.
use Rattle.std.specs.Prelude.{◌≡◌, ◌≢◌, ℕ, List, ◌∷◌, ◌++◌, length}
use Rattle.std.specs.List.{AllByRecursion}
use Rattle.krb_crypto.specs.declared.cipher_suite.CipherSuite.{CipherSuite}
use Rattle.krb_decrypt.specs.Keys.{Decrypts, NamedKey, SealsNone}
use Rattle.krb_decrypt.specs.Usages.{integer_of}
use Rattle.krb_decrypt.specs.declared.usage.Usage.{Usage}

-- under this key the octets are encrypted for none of these usages
abbrev pub OpensNone : NamedKey → List ℕ → List Usage → Type 0
OpensNone key cipher usages = AllByRecursion (λ u. SealsNone key (integer_of u) cipher) usages

-- for this usage they are, and decrypt to these octets, and for none before it
pub record IsFirstUsage (key : NamedKey) (cipher : List ℕ) (usages : List Usage) (u : Usage) (decrypted : List ℕ) : Type 0 where
  pub front : List Usage
  pub back : List Usage
  pub among : usages ≡ front ++ u ∷ back
  pub first : OpensNone key cipher front
  pub sealed : Decrypts key (integer_of u) cipher decrypted

-- under none of the suite's keys they are encrypted for one of these usages
abbrev pub NoneOpens : CipherSuite → List ℕ → List Usage → List NamedKey → Type 0
NoneOpens suite cipher usages keys = AllByRecursion (λ key. key.suite ≡ suite → OpensNone key cipher usages) keys

-- none of the keys is of the suite, and one is
abbrev pub NoneIsOf : CipherSuite → List NamedKey → Type 0
NoneIsOf suite keys = AllByRecursion (λ key. key.suite ≢ suite) keys

pub record OneIsOf (suite : CipherSuite) (keys : List NamedKey) : Type 0 where
  pub front : List NamedKey
  pub key : NamedKey
  pub back : List NamedKey
  pub among : keys ≡ front ++ key ∷ back
  pub of_suite : key.suite ≡ suite

-- The key behind so many is of the suite, and under it they are encrypted for this usage, and decrypt to these octets; under none of the suite's keys before it they
-- are, and under it for no usage before.
pub record IsFirstKey (suite : CipherSuite) (cipher : List ℕ) (usages : List Usage) (keys : List NamedKey) (index : ℕ) (u : Usage) (decrypted : List ℕ) : Type 0 where
  pub front : List NamedKey
  pub key : NamedKey
  pub back : List NamedKey
  pub among : keys ≡ front ++ key ∷ back
  pub place : length front ≡ index
  pub first : NoneOpens suite cipher usages front
  pub of_suite : key.suite ≡ suite
  pub usage : IsFirstUsage key cipher usages u decrypted
