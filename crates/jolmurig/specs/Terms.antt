-- The terms that `accept` is asked about.
use Rattle.std.specs.Prelude.{◌≡◌, ◌⊎◌, ◌<◌, ◌^◌, ℕ, Option, Some, None, List, [], ◌∷◌}
use Rattle.std.specs.Str.Parse.{IsNumeral, digits_value}
use Rattle.krb_accept_report.specs.Asked.{AreTermsFor}
use Rattle.krb_accept_rules.specs.Texts.{IsRealm, IsServer}
use Rattle.krb_accept_rules.specs.Names.{IsAmong}
use Rattle.krb_accept_rules.specs.declared.servers.ServerName.{ServerName}
use Rattle.krb_accept_rules.specs.declared.terms.Terms.{Terms}
use Rattle.jolmurig_command.specs.Accepts.{Accept}
use Rattle.jolmurig.specs.declared.failure.Failure.{Failure}
use Rattle.jolmurig.specs.declared.failure.Failure.TheVariants as failure

-- ---- the skew

-- a text is this number in decimal digits, and 32 bits hold it
pub record IsNumber (text : List ℕ) (number : ℕ) : Type 0 where
  pub digits : IsNumeral 10 text
  pub value : digits_value 10 text ≡ number
  pub fits : number < 2 ^ 32

-- the skew that is named, or 300 seconds (RFC 4120, 8.2)
abbrev pub IsSkew : Option (List ℕ) → ℕ → Type 0
IsSkew None seconds = seconds ≡ 300
IsSkew (Some text) seconds = IsNumber text seconds

-- ---- the servers and the realms, by what a text is that of

-- each is that of its text, in their order
abbrev pub AreOfTexts : {A : Type 0} → (List ℕ → A → Type 0) → List (List ℕ) → List A → Type 0
AreOfTexts is [] found = found ≡ []
AreOfTexts {A} is (text ∷ texts) found = (one : A) × (more : List A) × is text one × AreOfTexts is texts more × (found ≡ one ∷ more)

-- one of the texts is that of none
abbrev pub HasTextOfNone : {A : Type 0} → (List ℕ → A → Type 0) → List (List ℕ) → Type 0
HasTextOfNone {A} is texts = (text : List ℕ) × IsAmong texts text × ((one : A) → is text one → ⊥)

-- ---- all of it

-- the usual terms with the skew, for the servers and the realms that the options name (RFC 1964, 2.1.1)
pub record AreTerms (a : Accept) (terms : Terms) : Type 0 where
  pub skew : ℕ
  pub servers : List ServerName
  pub realms : List (List ℕ)
  pub is_skew : IsSkew a.skew skew
  pub are_servers : AreOfTexts IsServer a.servers servers
  pub are_realms : AreOfTexts IsRealm a.realms realms
  pub are_terms : AreTermsFor skew servers realms terms

-- there is no skew; there is one, and a text that is of no server; these too, and one that is no realm
abbrev pub HasNoSkew : Accept → Failure → Type 0
HasNoSkew a e = (e ≡ failure.Skew) × ((seconds : ℕ) → IsSkew a.skew seconds → ⊥)

abbrev pub HasNoServers : Accept → Failure → Type 0
HasNoServers a e = (skew : ℕ) × IsSkew a.skew skew × (e ≡ failure.Server) × HasTextOfNone IsServer a.servers

abbrev pub HasNoRealms : Accept → Failure → Type 0
HasNoRealms a e =
    (skew : ℕ) × (servers : List ServerName) × IsSkew a.skew skew × AreOfTexts IsServer a.servers servers
    × (e ≡ failure.Realm) × HasTextOfNone IsRealm a.realms

-- why there are no terms: the first option that has no value
abbrev pub AreNoTerms : Accept → Failure → Type 0
AreNoTerms a e = HasNoSkew a e ⊎ HasNoServers a e ⊎ HasNoRealms a e
