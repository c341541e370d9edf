-- The keys that the options name.
use Rattle.std.specs.Prelude.{◌≡◌, ◌⊎◌, ℕ, ◌+◌, List, [], ◌∷◌, ◌++◌, Option, Some, None, Ok, Err, codes}
use Rattle.std.specs.Fmt.{decimal}
use Rattle.std.specs.List.{flat_map}
use Rattle.krb_input.specs.Blanks.{without_blanks}
use Rattle.krb_files.specs.Entry.{Entry}
use Rattle.krb_files.specs.Keytab.{KeytabIs}
use Rattle.krb_files.specs.KeytabReading.{keytab_of}
use Rattle.krb_files.specs.declared.keytab.error.KeytabError.{KeytabError}
use Rattle.krb_decrypt.specs.KeytabKeys.{key_in, keys_of_entry}
use Rattle.krb_decrypt.specs.Keys.{NamedKey}
use Rattle.jolmurig_command.specs.Shows.{Source}
use Rattle.jolmurig_command.specs.declared.command.SourceKind.{SourceKind}
use Rattle.jolmurig_command.specs.declared.command.SourceKind.TheVariants as source
use Rattle.jolmurig.specs.Failures.{IsUnread}
use Rattle.jolmurig.specs.Files.{Gives}
use Rattle.jolmurig.specs.declared.files.Purpose.TheVariants as purpose
use Rattle.jolmurig.specs.declared.failure.Failure.{Failure}
use Rattle.jolmurig.specs.declared.failure.Failure.TheVariants as failure

-- ---- a key as text

-- the name of the key of an option `--key`, by its number
abbrev pub key_name : ℕ → List ℕ
key_name number = codes "--key " ++ decimal number

-- the one key that a text is, under a name
abbrev pub text_gives : List ℕ → List ℕ → List NamedKey → Type 0
text_gives text name keys = (key : NamedKey) × (key_in text name ≡ Some key) × (keys ≡ key ∷ [])

-- a text is no key
abbrev pub IsNoKeyIn : List ℕ → List ℕ → Failure → Failure → Type 0
IsNoKeyIn text name no_key e = (e ≡ no_key) × (key_in text name ≡ None)

-- ---- keytabs

-- the keys of the keytab that octets are
abbrev pub IsKeytabOf : List ℕ → List NamedKey → Type 0
IsKeytabOf octets keys = (entries : List Entry) × KeytabIs octets entries × (keys ≡ flat_map keys_of_entry entries)

-- octets are no keytab, and this is their first error
abbrev pub IsNoKeytabOf : List ℕ → Failure → Type 0
IsNoKeytabOf octets e = (why : KeytabError) × (keytab_of octets ≡ Err why) × (e ≡ failure.Keytab why)

-- ---- options

-- more keys stand behind those that there were
abbrev pub adds : (List NamedKey → Type 0) → List NamedKey → List NamedKey → Type 0
adds are old new = (more : List NamedKey) × are more × (new ≡ old ++ more)

-- What files give, by their names: octets, or why one is not read.
module _ (gives : Gives) where
  -- the key that the text of a file is, without its blanks and line breaks, under the name of the file
  abbrev pub key_file_gives : List ℕ → List NamedKey → Type 0
  key_file_gives name keys = (octets : List ℕ) × gives name (Ok octets) × text_gives (without_blanks octets) name keys

  -- why a file has none: it is not read, or its text is no key
  abbrev pub IsNoKeyFile : List ℕ → Failure → Type 0
  IsNoKeyFile name e =
      IsUnread gives purpose.KeyFile name e
      ⊎ ((octets : List ℕ) × gives name (Ok octets) × IsNoKeyIn (without_blanks octets) name failure.KeyInFile e)

  -- the keys of the keytab that a file is
  abbrev pub keytab_gives : List ℕ → List NamedKey → Type 0
  keytab_gives name keys = (octets : List ℕ) × gives name (Ok octets) × IsKeytabOf octets keys

  -- why a file has none: it is not read, or is no keytab
  abbrev pub IsNoKeytab : List ℕ → Failure → Type 0
  IsNoKeytab name e = IsUnread gives purpose.Keytab name e ⊎ ((octets : List ℕ) × gives name (Ok octets) × IsNoKeytabOf octets e)

  -- the keys of an option with this number
  abbrev pub gives_keys : ℕ → Source → List NamedKey → Type 0
  gives_keys number s keys = by_kind s.kind
    where
      by_kind : SourceKind → Type 0
      by_kind source.Key = text_gives s.text (key_name number) keys
      by_kind source.KeyFile = key_file_gives s.text keys
      by_kind source.Keytab = keytab_gives s.text keys

  -- why an option has none
  abbrev pub IsNoSource : ℕ → Source → Failure → Type 0
  IsNoSource number s e = by_kind s.kind
    where
      by_kind : SourceKind → Type 0
      by_kind source.Key = IsNoKeyIn s.text (key_name number) failure.Key e
      by_kind source.KeyFile = IsNoKeyFile s.text e
      by_kind source.Keytab = IsNoKeytab s.text e

  -- the keys of the options, in their order; they are numbered from this on
  abbrev pub AreKeys : ℕ → List Source → List NamedKey → Type 0
  AreKeys number [] keys = keys ≡ []
  AreKeys number (s ∷ ss) keys =
      (mine : List NamedKey) × (more : List NamedKey) × gives_keys number s mine × AreKeys (number + 1) ss more × (keys ≡ mine ++ more)

  -- why the options have none: the first of them that has none
  abbrev pub HasNoKeys : ℕ → List Source → Failure → Type 0
  HasNoKeys number [] e = ⊥
  HasNoKeys number (s ∷ ss) e = IsNoSource number s e ⊎ ((mine : List NamedKey) × gives_keys number s mine × HasNoKeys (number + 1) ss e)
