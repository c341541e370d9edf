-- The client's keys, among those of a keytab (MIT Kerberos, "Keytab file format").
use Rattle.std.specs.Prelude.{◌≡◌, ◌⊎◌, ℕ, List, [], ◌∷◌, ◌++◌, reverse}
use Rattle.krb_accept_rules.specs.declared.key.ServiceKey.{ServiceKey}
use Rattle.krb_client_rules.specs.Names.{IsSameName}
use Rattle.krb_client_rules.specs.declared.asked.Asked.{Asked}
use Rattle.krb_client_rules.specs.declared.key.Key.{Key}
use Rattle.krb_crypto.specs.Suites.{NoSuite, etype}
use Rattle.krb_c_accept.specs.Prepared.{AreKeys}

-- the key is of the client's realm and name
abbrev pub IsOfClient : Asked → ServiceKey → Type 0
IsOfClient a k = (k.realm ≡ a.crealm) × IsSameName k.name a.cname

-- its octets, under its suite
abbrev pub IsSuiteKey : ServiceKey → Key → Type 0
IsSuiteKey k key = (etype key.suite ≡ k.etype) × (key.octets.items ≡ k.octets)

-- it is the client's, and its encryption type has a suite
abbrev pub IsKeyOf : Asked → ServiceKey → Key → Type 0
IsKeyOf a k key = IsOfClient a k × IsSuiteKey k key

abbrev pub IsNotKeyOf : Asked → ServiceKey → Type 0
IsNotKeyOf a k = (IsOfClient a k → ⊥) ⊎ NoSuite etype k.etype

-- behind these, it is there where it is one
abbrev pub IsPushed : Asked → ServiceKey → List Key → List Key → Type 0
IsPushed a k before after = (IsNotKeyOf a k × (after ≡ before)) ⊎ ((key : Key) × IsKeyOf a k key × (after ≡ before ++ key ∷ []))

-- those of these that are, in their order
pub data AreKeysOf (a : Asked) : List ServiceKey → List Key → Type 0 where
  none : AreKeysOf a [] []
  more : (those : List ServiceKey) (k : ServiceKey) (before after : List Key) → AreKeysOf a those before → IsPushed a k before after
      → AreKeysOf a (those ++ k ∷ []) after

-- the keytab's, the last ones first
pub record AreClientKeys (keytab : List ℕ) (a : Asked) (keys : List Key) : Type 0 where
  pub all : List ServiceKey
  pub are_all : AreKeys keytab all
  pub found : List Key
  pub are_found : AreKeysOf a all found
  pub last_first : keys ≡ reverse found
