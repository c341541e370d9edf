-- A credential cache and its octets (MIT Kerberos, "Credential cache file format"). Numbers have the most significant octet first.
use Rattle.std.specs.Prelude.{◌≡◌, ℕ, List, [], ◌∷◌, ◌++◌}
use Rattle.std.specs.List.{flat_map, AllByRecursion}
use Rattle.byteorder.specs.Endian.{big_bytes}
use Rattle.krb_files.specs.FieldReading.{Principal, Typed}
use Rattle.krb_files.specs.FieldWritten.{counted_octets, principal_octets as name_octets, twice_octets, typed_octets, typed_list_octets, FitsNumber, FitsCounted, FitsPrincipal as FitsName, FitsTyped, FitsTypedList}
use Rattle.krb_files.specs.declared.ccache.credential.Times.{Times}
use Rattle.krb_files.specs.declared.ccache.view.CcacheVersion.{CcacheVersion}
use Rattle.krb_files.specs.declared.ccache.view.CcacheVersion.TheVariants.{Three, Four}

-- "Principal format": a principal and the type of its name
pub record TypedPrincipal : Type 0 where
  pub name_type : ℕ
  pub principal : Principal

-- "Credential format"
pub record Credential : Type 0 where
  pub client : TypedPrincipal
  pub server : TypedPrincipal
  pub etype : ℕ
  pub key : List ℕ
  pub times : Times
  pub is_skey : ℕ
  pub flags : ℕ
  pub addresses : List Typed
  pub authorization_data : List Typed
  pub ticket : List ℕ
  pub second_ticket : List ℕ

-- the fields of the header, none in version 3, the default principal, and the credentials
pub record Ccache : Type 0 where
  pub version : CcacheVersion
  pub header : List Typed
  pub principal : TypedPrincipal
  pub credentials : List Credential

-- the second octet
abbrev pub version_octet : CcacheVersion → ℕ
version_octet Three = 3
version_octet Four = 4

-- "Principal format": name type, and then how many components there are, realm and components
abbrev pub principal_octets : TypedPrincipal → List ℕ
principal_octets p = big_bytes 4 p.name_type ++ name_octets 4 p.principal

-- "Credential format": "enctype (16 bits) [repeated twice in version 3]"
abbrev pub etype_octets : CcacheVersion → ℕ → List ℕ
etype_octets Three etype = twice_octets etype
etype_octets Four etype = big_bytes 2 etype

-- "Credential format": authtime, starttime, endtime and renew_till, of 32 bits each
abbrev pub times_octets : Times → List ℕ
times_octets t = big_bytes 4 t.authtime ++ (big_bytes 4 t.starttime ++ (big_bytes 4 t.endtime ++ big_bytes 4 t.renew_till))

-- "Credential format": client, server, encryption type and key, times, is_skey of one octet, flags, addresses, authorization data, ticket,
-- second ticket
abbrev pub credential_octets : CcacheVersion → Credential → List ℕ
credential_octets v c =
    principal_octets c.client ++ (principal_octets c.server ++ (etype_octets v c.etype ++ (counted_octets 4 c.key ++ (times_octets c.times ++ (big_bytes 1 c.is_skey
    ++ (big_bytes 4 c.flags ++ (typed_list_octets c.addresses ++ (typed_list_octets c.authorization_data ++ (counted_octets 4 c.ticket ++ counted_octets 4 c.second_ticket)))))))))

-- "Header format": "The header appears only in format version 4": its length, and fields of a tag, a length and octets
abbrev pub header_octets : CcacheVersion → List Typed → List ℕ
header_octets Three fields = []
header_octets Four fields = counted_octets 2 (flat_map (typed_octets 2) fields)

-- 05 and the version, the header, the default principal, the credentials
abbrev pub ccache_octets : Ccache → List ℕ
ccache_octets c = 5 ∷ version_octet c.version ∷ (header_octets c.version c.header ++ (principal_octets c.principal ++ flat_map (credential_octets c.version) c.credentials))

-- ---- which values have a place in their fields

abbrev pub FitsPrincipal : TypedPrincipal → Type 0
FitsPrincipal p = FitsNumber 4 p.name_type × FitsName 4 p.principal

abbrev pub FitsTimes : Times → Type 0
FitsTimes t = FitsNumber 4 t.authtime × (FitsNumber 4 t.starttime × (FitsNumber 4 t.endtime × FitsNumber 4 t.renew_till))

abbrev pub FitsCredential : Credential → Type 0
FitsCredential c =
    FitsPrincipal c.client × (FitsPrincipal c.server × (FitsNumber 2 c.etype × (FitsCounted 4 c.key × (FitsTimes c.times × (FitsNumber 1 c.is_skey
    × (FitsNumber 4 c.flags × (FitsTypedList c.addresses × (FitsTypedList c.authorization_data × (FitsCounted 4 c.ticket × FitsCounted 4 c.second_ticket)))))))))

abbrev pub FitsHeader : CcacheVersion → List Typed → Type 0
FitsHeader Three fields = fields ≡ []
FitsHeader Four fields = AllByRecursion (FitsTyped 2) fields × FitsCounted 2 (flat_map (typed_octets 2) fields)

pub record FitsCcache (c : Ccache) : Type 0 where
  pub header : FitsHeader c.version c.header
  pub principal : FitsPrincipal c.principal
  pub credentials : AllByRecursion FitsCredential c.credentials

-- the octets are this credential cache
abbrev pub CcacheIs : List ℕ → Ccache → Type 0
CcacheIs b c = (b ≡ ccache_octets c) × FitsCcache c
