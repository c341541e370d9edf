-- What keys make of an encrypted part.
use Rattle.std.specs.Prelude.{◌≡◌, ◌≢◌, ◌⊎◌, ℕ, ℤ, pos, List, [], Option, None, Some, codes}
use Rattle.krb_crypto.specs.declared.cipher_suite.CipherSuite.{CipherSuite}
use Rattle.krb_schema.specs.declared.shape.Role.{Role}
use Rattle.krb_schema.specs.declared.shape.Role.TheVariants as roles
use Rattle.krb_decrypt.specs.Keys.{HasZeros, NamedKey, suite_of, zeros_of}
use Rattle.krb_decrypt.specs.Search.{IsFirstKey, NoneIsOf, NoneOpens, OneIsOf}
use Rattle.krb_decrypt.specs.Types.{AreItemsOf, IsOfNo}
use Rattle.krb_decrypt.specs.Usages.{type_of, usages_of}
use Rattle.krb_decrypt.specs.declared.outcome.Outcome.{Outcome}
use Rattle.krb_decrypt.specs.declared.outcome.Outcome.TheVariants as outcomes
use Rattle.krb_decrypt.specs.declared.outcome.Part.{Part}
use Rattle.krb_decrypt.specs.declared.outcome.Reason.TheVariants as reasons
use Rattle.krb_decrypt.specs.declared.usage.Usage.{Usage}
use Rattle.krb_decrypt.specs.declared.usage.Usage.TheVariants as usage

-- ---- what is encrypted

-- the octets are one element of the type, and the part has them and their items
pub record IsPart (kind octets : List ℕ) (p : Part) : Type 0 where
  pub named : p.type_name.now ≡ kind
  pub whole : p.octets.items ≡ octets
  pub items : AreItemsOf kind octets p.items.items

-- some KDCs encrypt an EncTGSRepPart in an AS-REP (RFC 4120, 5.4.2)
abbrev pub IsOther : Usage → List ℕ → Part → Type 0
IsOther usage.AsRep octets p = IsPart (codes "EncTGSRepPart") octets p
IsOther u octets p = ⊥

abbrev pub NoOther : Usage → List ℕ → Type 0
NoOther usage.AsRep octets = IsOfNo (codes "EncTGSRepPart") octets
NoOther u octets = Unit {0}

-- the octets are that which is encrypted for the usage; or they are none
abbrev pub IsPartAs : Usage → List ℕ → Part → Type 0
IsPartAs u octets p = IsPart (type_of u) octets p ⊎ (IsOfNo (type_of u) octets × IsOther u octets p)

abbrev pub IsNoPart : Usage → List ℕ → Type 0
IsNoPart u octets = IsOfNo (type_of u) octets × NoOther u octets

-- The part that is encrypted for the usage, of a payload that with at most so many zeros is these octets; none where no such payload is one.
abbrev pub IsPartFor : Usage → ℕ → List ℕ → Option Part → Type 0
IsPartFor u most decrypted None = (payload : List ℕ) → HasZeros most payload decrypted → IsNoPart u payload
IsPartFor u most decrypted (Some p) = HasZeros most p.octets.items decrypted × IsPartAs u p.octets.items p

-- ---- a part among keys

-- encryption type 0, NULL: a KRB-CRED's octets are not encrypted (RFC 4120, 5.8.1)
abbrev pub IsClear : Role → Option ℤ → Type 0
IsClear role etype = (role ≡ roles.EncKrbCredPart) × (etype ≡ Some (pos 0))

-- they are, or they are no such part
abbrev pub IsNotClear : Role → Option ℤ → List ℕ → Type 0
IsNotClear role etype cipher = IsClear role etype → IsOfNo (codes "EncKrbCredPart") cipher

-- the first key and usage under which it is encrypted decide
pub record IsDecrypted (suite : CipherSuite) (role : Role) (cipher : List ℕ) (keys : List NamedKey) (o : Outcome) : Type 0 where
  pub index : ℕ
  pub u : Usage
  pub decrypted : List ℕ
  pub held : Option Part
  pub first : IsFirstKey suite cipher (usages_of role) keys index u decrypted
  pub part : IsPartFor u (zeros_of suite) decrypted held
  pub outcome : o ≡ outcomes.Decrypted index u held

abbrev pub UnderSuite : CipherSuite → Role → List ℕ → List NamedKey → Outcome → Type 0
UnderSuite suite role cipher keys o =
    (NoneIsOf suite keys × (o ≡ outcomes.NotDecrypted reasons.NoKeyOfType))
    ⊎ ((OneIsOf suite keys × NoneOpens suite cipher (usages_of role) keys × (o ≡ outcomes.NotDecrypted reasons.NoKeyFits))
    ⊎ IsDecrypted suite role cipher keys o)

abbrev pub UnderKeys : Role → Option ℤ → List ℕ → List NamedKey → Outcome → Type 0
UnderKeys role etype cipher keys o =
    ((keys ≡ []) × (o ≡ outcomes.NotTried))
    ⊎ ((keys ≢ []) × (((suite_of etype ≡ None) × (o ≡ outcomes.NotDecrypted reasons.TypeNotSupported))
    ⊎ ((suite : CipherSuite) × (suite_of etype ≡ Some suite) × UnderSuite suite role cipher keys o)))

abbrev pub InClear : List ℕ → Outcome → Type 0
InClear cipher o = (p : Part) × (o ≡ outcomes.InClear p) × IsPart (codes "EncKrbCredPart") cipher p

-- what keys make of a part of this role, encryption type and ciphertext
abbrev pub IsOutcome : Role → Option ℤ → List ℕ → List NamedKey → Outcome → Type 0
IsOutcome role etype cipher keys o =
    (IsClear role etype × InClear cipher o) ⊎ (IsNotClear role etype cipher × UnderKeys role etype cipher keys o)
