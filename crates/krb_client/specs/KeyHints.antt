-- What a KDC tells of a client's key (RFC 4120, 5.2.7.5 and 5.9.1), and the key.
use Rattle.std.specs.Prelude.{◌≡◌, ◌⊎◌, ℕ, pos, List, ◌++◌, Option, Some, None}
use Rattle.std.specs.List.{flat_map}
use Rattle.krb_crypto.specs.Suites.{etype}
use Rattle.krb_crypto.specs.declared.cipher_suite.CipherSuite.{CipherSuite}
use Rattle.krb_der.specs.Whole.{Encodes}
use Rattle.krb_der_core.specs.declared.der.DerEncode.{Ghosts as EncodingOf}
use Rattle.krb_types.specs.declared.data_types.etype_info.EtypeInfo2Entry.{EtypeInfo2Entry}
use Rattle.krb_types.specs.declared.data_types.pre_authentication.PaData.{PaData}
use Rattle.krb_client_rules.specs.declared.key.Key.{Key}
use Rattle.krb_client.specs.Firsts.{IsFirst, NoneIs}
use Rattle.krb_client.specs.PasswordKeys.{IsKeyOfPassword, IsNoKeyOfPassword}
use Rattle.krb_client.specs.declared.keys.hint.HintError.{HintError}
use Rattle.krb_client.specs.declared.keys.hint.HintError.TheVariants as errors
use Rattle.krb_client.specs.declared.keys.limits.Limits.{Limits}
use Rattle.krb_client.specs.declared.keys.password.PasswordError.{PasswordError}
use Rattle.krb_client.specs.declared.keys.secret.Client.{Client}
use Rattle.krb_client.specs.declared.keys.secret.Secret.{Secret}
use Rattle.krb_client.specs.declared.keys.secret.Secret.TheVariants as secret

-- ---- hints

-- ETYPE-INFO2 is of type 19 (RFC 4120, 5.2.7.5)
abbrev pub IsInfo : PaData → Type 0
IsInfo d = d.padata_type ≡ pos 19

-- an entry of this suite's encryption type
abbrev pub IsEntryOf : CipherSuite → EtypeInfo2Entry → Type 0
IsEntryOf suite e = e.etype ≡ pos (etype suite)

-- there is one among these
abbrev pub HasEntry : List EtypeInfo2Entry → CipherSuite → Type 0
HasEntry entries suite = (e : EtypeInfo2Entry) × IsFirst (IsEntryOf suite) entries e

-- of the client's suites, in its order, the first that has an entry, and the first entry of it
pub record IsHint (suites : List CipherSuite) (entries : List EtypeInfo2Entry) (suite : CipherSuite) (e : EtypeInfo2Entry) : Type 0 where
  pub is_suite : IsFirst (HasEntry entries) suites suite
  pub is_entry : IsFirst (IsEntryOf suite) entries e

-- ---- the client's key

-- the default salt: the realm and the components, one behind another (RFC 4120, 4; 5.2.7.5)
abbrev pub default_salt : Client → List ℕ
default_salt c = c.realm.now ++ flat_map (λ part. part) c.name.now.name_string

abbrev pub salt_or : Option (List ℕ) → Client → List ℕ
salt_or None c = default_salt c
salt_or (Some salt) c = salt

-- a key of this suite
abbrev pub IsOfSuite : CipherSuite → Key → Type 0
IsOfSuite suite k = k.suite ≡ suite

-- the client's key of a suite, for this salt and these parameters: that of its password; or the first of its keys that is of the suite
abbrev pub IsClientKey : Client → Secret → Limits → CipherSuite → Option (List ℕ) → Option (List ℕ) → Key → Type 0
IsClientKey c (secret.Password password) limits suite salt parameters key =
    (key.suite ≡ suite) × IsKeyOfPassword suite password.now (salt_or salt c) parameters limits key.octets.items
IsClientKey c (secret.Keys keys) limits suite salt parameters key =
    (key.suite ≡ suite) × ((k : Key) × IsFirst (IsOfSuite suite) keys.now k × (key.octets.items ≡ k.octets.items))

-- why there is none
abbrev pub IsNoClientKey : Secret → Limits → CipherSuite → Option (List ℕ) → HintError → Type 0
IsNoClientKey (secret.Password password) limits suite parameters e =
    (why : PasswordError) × (e ≡ errors.Password why) × IsNoKeyOfPassword suite parameters limits why
IsNoClientKey (secret.Keys keys) limits suite parameters e = (e ≡ errors.NoKey) × NoneIs (IsOfSuite suite) keys.now

-- the first ETYPE-INFO2 of these elements has an entry of the client's suites, and this is the client's key for it
pub record TellsKey (infos : EncodingOf (List EtypeInfo2Entry)) (c : Client) (s : Secret) (limits : Limits) (suites : List CipherSuite) (elements : List PaData)
    (key : Key) : Type 0 where
  pub element : PaData
  pub is_element : IsFirst IsInfo elements element
  pub entries : List EtypeInfo2Entry
  pub are_entries : Encodes infos element.padata_data entries
  pub suite : CipherSuite
  pub entry : EtypeInfo2Entry
  pub is_hint : IsHint suites entries suite entry
  pub is_key : IsClientKey c s limits suite entry.salt.0 entry.s2kparams.0 key

-- the octets are METHOD-DATA that tell the key (RFC 4120, 5.9.1)
pub record IsToldKey (lists : EncodingOf (List PaData)) (infos : EncodingOf (List EtypeInfo2Entry)) (c : Client) (s : Secret) (limits : Limits)
    (suites : List CipherSuite) (octets : List ℕ) (key : Key) : Type 0 where
  pub elements : List PaData
  pub are_elements : Encodes lists octets elements
  pub tells : TellsKey infos c s limits suites elements key

-- the entries tell of no key
abbrev pub TellsNoKey : Secret → Limits → List CipherSuite → List EtypeInfo2Entry → HintError → Type 0
TellsNoKey s limits suites entries e =
    ((e ≡ errors.EncryptionType) × NoneIs (HasEntry entries) suites)
    ⊎ ((suite : CipherSuite) × (entry : EtypeInfo2Entry) × IsHint suites entries suite entry × IsNoClientKey s limits suite entry.s2kparams.0 e)

-- the octets of an ETYPE-INFO2 do
abbrev pub InfoTellsNoKey : EncodingOf (List EtypeInfo2Entry) → Secret → Limits → List CipherSuite → List ℕ → HintError → Type 0
InfoTellsNoKey infos s limits suites octets e =
    ((e ≡ errors.Info) × ((entries : List EtypeInfo2Entry) → Encodes infos octets entries → ⊥))
    ⊎ ((entries : List EtypeInfo2Entry) × Encodes infos octets entries × TellsNoKey s limits suites entries e)

-- no element is an ETYPE-INFO2; else the first one tells of none
abbrev pub ElementsTellNoKey : EncodingOf (List EtypeInfo2Entry) → Secret → Limits → List CipherSuite → List PaData → HintError → Type 0
ElementsTellNoKey infos s limits suites elements e =
    ((e ≡ errors.NoInfo) × NoneIs IsInfo elements)
    ⊎ ((element : PaData) × IsFirst IsInfo elements element × InfoTellsNoKey infos s limits suites element.padata_data e)

-- Why the octets tell of no key: they are no METHOD-DATA; else their elements tell of none.
abbrev pub IsNoToldKey : EncodingOf (List PaData) → EncodingOf (List EtypeInfo2Entry) → Secret → Limits → List CipherSuite → List ℕ → HintError → Type 0
IsNoToldKey lists infos s limits suites octets e =
    ((e ≡ errors.MethodData) × ((elements : List PaData) → Encodes lists octets elements → ⊥))
    ⊎ ((elements : List PaData) × Encodes lists octets elements × ElementsTellNoKey infos s limits suites elements e)
