-- What is written of a credential cache, and what is refused (MIT Kerberos, "Credential cache file format").
use Rattle.std.specs.Prelude.{◌≡◌, ℕ, List, [], ◌∷◌, ◌++◌, map}
use Rattle.byteorder.specs.Endian.{big_bytes}
use Rattle.krb_files.specs.Principals.{principal_of as name_of}
use Rattle.krb_files.specs.FieldReading.{Typed}
use Rattle.krb_files.specs.FieldWritten.{counted_octets, typed_list_octets}
use Rattle.krb_files.specs.Ccache.{TypedPrincipal, Credential, Ccache, version_octet, principal_octets, etype_octets, times_octets, header_octets, FitsHeader, FitsCredential, FitsCcache}
use Rattle.krb_files.specs.declared.ccache.error.CcacheWriteError.{CcacheWriteError}
use Rattle.krb_files.specs.declared.ccache.error.CcacheWriteError.TheVariants.{HeaderInVersion3, TooLong, OutOfMemory}
use Rattle.krb_files.specs.declared.ccache.view.CcacheVersion.{CcacheVersion}
use Rattle.krb_files.specs.declared.ccache.view.CcacheVersion.TheVariants.{Three, Four}
use Rattle.krb_files.specs.declared.ccache.writing.CcachePrincipalParts.{CcachePrincipalParts}
use Rattle.krb_files.specs.declared.ccache.writing.NewCredential.{NewCredential}
use Rattle.krb_files.specs.declared.ccache.writing.NewCcache.{NewCcache}

-- ---- the values that are to be written

abbrev pub principal_of : CcachePrincipalParts → TypedPrincipal
principal_of p = record { name_type = p.name_type; principal = name_of p.principal }

abbrev pub credential_from : NewCredential → Credential
credential_from c = record {
  client = principal_of c.client;
  server = principal_of c.server;
  etype = c.etype;
  key = c.key.now;
  times = c.times;
  is_skey = c.is_skey;
  flags = c.flags;
  addresses = c.addresses.now;
  authorization_data = c.authorization_data.now;
  ticket = c.ticket.now;
  second_ticket = c.second_ticket.now;
}

abbrev pub ccache_from : NewCcache → Ccache
ccache_from c = record {
  version = c.version;
  header = c.header.now;
  principal = principal_of c.principal;
  credentials = map credential_from c.credentials.now;
}

-- ---- the parts of their octets

-- "Credential format": up to the times
abbrev pub front_octets : CcacheVersion → Credential → List ℕ
front_octets v c = principal_octets c.client ++ (principal_octets c.server ++ (etype_octets v c.etype ++ (counted_octets 4 c.key ++ times_octets c.times)))

-- "Credential format": behind the times
abbrev pub back_octets : Credential → List ℕ
back_octets c =
    big_bytes 1 c.is_skey ++ (big_bytes 4 c.flags ++ (typed_list_octets c.addresses ++ (typed_list_octets c.authorization_data ++ (counted_octets 4 c.ticket ++ counted_octets 4 c.second_ticket))))

-- what is in front of the credentials
abbrev pub head_octets : Ccache → List ℕ
head_octets c = 5 ∷ version_octet c.version ∷ (header_octets c.version c.header ++ principal_octets c.principal)

-- ---- what is refused

-- "Header format": "The header appears only in format version 4": the version has a place for these fields, however long
abbrev pub HasHeader : CcacheVersion → List Typed → Type 0
HasHeader Three fields = fields ≡ []
HasHeader Four fields = Unit {0}

-- why a header is refused
abbrev pub HeaderIsRefused : CcacheVersion → List Typed → CcacheWriteError → Type 0
HeaderIsRefused v fields HeaderInVersion3 = HasHeader v fields → ⊥
HeaderIsRefused v fields TooLong = HasHeader v fields × (FitsHeader v fields → ⊥)
HeaderIsRefused v fields OutOfMemory = Unit {0}

-- why a credential is refused
abbrev pub CredentialIsRefused : Credential → CcacheWriteError → Type 0
CredentialIsRefused c HeaderInVersion3 = ⊥
CredentialIsRefused c TooLong = FitsCredential c → ⊥
CredentialIsRefused c OutOfMemory = Unit {0}

-- why a cache is refused: its version has no place for its header, or else a length or a count has no place in its field
abbrev pub IsRefused : Ccache → CcacheWriteError → Type 0
IsRefused c HeaderInVersion3 = HasHeader c.version c.header → ⊥
IsRefused c TooLong = HasHeader c.version c.header × (FitsCcache c → ⊥)
IsRefused c OutOfMemory = Unit {0}

-- ---- a credential more

-- the cache with this credential behind the others
abbrev pub with_credential : Ccache → Credential → Ccache
with_credential c x = record c { credentials = c.credentials ++ x ∷ [] }
