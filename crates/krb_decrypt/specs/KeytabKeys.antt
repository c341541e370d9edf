-- Keys in texts and in keytabs.
use Rattle.std.specs.Prelude.{◌≡◌, ℕ, nat_eq, if◌then◌else◌, List, [], ◌∷◌, ◌++◌, length, Option, None, Some, Err, codes}
use Rattle.std.specs.Fmt.{decimal}
use Rattle.std.specs.List.{flat_map}
use Rattle.krb_crypto.specs.BySuite.{key_octets_of}
use Rattle.krb_crypto.specs.declared.cipher_suite.CipherSuite.{CipherSuite}
use Rattle.krb_input.specs.Forms.{hexadecimal}
use Rattle.krb_files.specs.Entry.{Entry}
use Rattle.krb_files.specs.Keytab.{KeytabIs}
use Rattle.krb_files.specs.KeytabReading.{keytab_of}
use Rattle.krb_decrypt.specs.Keys.{NamedKey}
use Rattle.krb_decrypt.specs.Suites.{digits_of, suite_of_number, suite_of_text}
use Rattle.krb_decrypt.specs.declared.keytab.KeytabKeysError.{KeytabKeysError}
use Rattle.krb_decrypt.specs.declared.keytab.KeytabKeysError.TheVariants as errors

-- ---- a key as text: ETYPE:HEX

-- octets, where they have the length of the suite's keys
abbrev pub of_length : CipherSuite → Option (List ℕ) → Option (List ℕ)
of_length suite None = None
of_length suite (Some octets) = if nat_eq (length octets) (key_octets_of suite) then Some octets else None

-- what digits stand for, if there are any
abbrev pub decoded : Option (List ℕ) → Option (List ℕ)
decoded None = None
decoded (Some digits) = hexadecimal digits

-- the octets of the key of this suite in a text
abbrev pub key_of_suite : CipherSuite → List ℕ → Option (List ℕ)
key_of_suite suite text = of_length suite (decoded (digits_of suite text))

abbrev pub named_key : CipherSuite → List ℕ → Option (List ℕ) → Option NamedKey
named_key suite name None = None
named_key suite name (Some octets) = Some (record { suite = suite; octets = octets; name = name })

abbrev pub key_if : List ℕ → List ℕ → Option CipherSuite → Option NamedKey
key_if text name None = None
key_if text name (Some suite) = named_key suite name (key_of_suite suite text)

-- the key that a text is, under a name
abbrev pub key_in : List ℕ → List ℕ → Option NamedKey
key_in text name = key_if text name (suite_of_text text)

-- ---- keytabs (MIT Kerberos, "Keytab file format")

-- components, a `/` (47) before each but the first
abbrev pub components_text : List (List ℕ) → List ℕ
components_text [] = []
components_text (first ∷ rest) = first ++ flat_map (λ c. 47 ∷ c) rest

-- the principal, an `@` (64) before its realm, and the version of the key
abbrev pub entry_name : Entry → List ℕ
entry_name e = components_text e.principal.components ++ 64 ∷ e.principal.realm ++ codes " kvno " ++ decimal e.kvno

abbrev pub keys_with : Entry → Option CipherSuite → List NamedKey
keys_with e None = []
keys_with e (Some suite) = record { suite = suite; octets = e.key; name = entry_name e } ∷ []

-- the key of an entry, where its encryption type is that of a suite
abbrev pub keys_of_entry : Entry → List NamedKey
keys_of_entry e = keys_with e (suite_of_number e.etype)

-- the first error of the octets; or an allocation failed, and they are a keytab
abbrev pub IsNoKeytab : List ℕ → KeytabKeysError → Type 0
IsNoKeytab octets (errors.Keytab why) = keytab_of octets ≡ Err why
IsNoKeytab octets errors.OutOfMemory = (entries : List Entry) × KeytabIs octets entries
