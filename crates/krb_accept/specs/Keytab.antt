-- The keys of a keytab (MIT Kerberos, "Keytab file format"), as keys of a service.
use Rattle.std.specs.List.{list_all}
use Rattle.std.specs.Prelude.{ℕ, pos, Bool, ◌&&◌, List, [], ◌∷◌, nat_lt, if◌then◌else◌}
use Rattle.krb_accept_rules.specs.declared.key.ServiceKey.{ServiceKey}
use Rattle.krb_files.specs.Entry.{Entry}

-- each octet is one of ASCII, as those of a KerberosString are (RFC 4120, 5.2.1)
abbrev pub is_text : List ℕ → Bool
is_text octets = list_all (λ octet. nat_lt octet 128) octets

abbrev pub are_texts : List (List ℕ) → Bool
are_texts components = list_all is_text components

-- the key of an entry
abbrev pub key_of_entry : Entry → ServiceKey
key_of_entry e = record {
  realm = e.principal.realm;
  name = record { name_type = pos e.name_type; name_string = e.principal.components };
  kvno = e.kvno;
  etype = e.etype;
  octets = e.key;
}

-- none, where its realm or its name is no text
abbrev pub keys_of_entry : Entry → List ServiceKey
keys_of_entry e = if is_text e.principal.realm && are_texts e.principal.components then key_of_entry e ∷ [] else []
