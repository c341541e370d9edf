-- The files of MIT Kerberos as tokens, and which octets are none.
use Rattle.std.specs.Prelude.{◌≡◌, ◌≢◌, ℕ, pos, Bool, true, false, List, [], ◌∷◌, Err, ◌⊎◌, codes}
use Rattle.byteorder.specs.Endian.{big_bytes}
use Rattle.krb_files.specs.Ccache.{Ccache, CcacheIs, Credential, TypedPrincipal, version_octet}
use Rattle.krb_files.specs.CcacheReading.{ccache_of as ccache_read}
use Rattle.krb_files.specs.Config.{is_removed}
use Rattle.krb_der_core.specs.BitString.{Bits}
use Rattle.krb_der_core.specs.GeneralizedTime.{Time, IsRealTime}
use Rattle.krb_files.specs.FieldReading.{Typed}
use Rattle.krb_files.specs.Entry.{Entry}
use Rattle.krb_files.specs.Keytab.{KeytabIs}
use Rattle.krb_files.specs.KeytabReading.{keytab_of as keytab_read}
use Rattle.krb_registry.specs.declared.kind.Kind.TheVariants.{AddressType, AuthorizationDataType, EncryptionType, NameType, TicketFlag}
use Rattle.krb_show.specs.Leaves.{flags_of, number_of, octets_of, secret_octets_of, text_of, time_of, truth_of}
use Rattle.krb_show.specs.Opened.{opened_or}
use Rattle.krb_show.specs.Pages.{◌then◌, list_of, struct_of}
use Rattle.krb_show.specs.Tokens.{Label, Token, of_kind, plain}
use Rattle.krb_show_pages.specs.declared.files.error.FilePageError.{FilePageError}
use Rattle.krb_show_pages.specs.declared.files.error.FilePageError.TheVariants as errors
use Rattle.krb_types.specs.Times.{unix_seconds}

-- ---- values of both files (MIT Kerberos, "Keytab file format" and "Credential cache file format")

-- components ("Keytab file format"; "Credential cache file format", "Principal format"), which are texts of any octets
abbrev pub texts_of : Label → List (List ℕ) → List Token → List Token → Type 0
texts_of label texts = list_of text_of label texts

-- no time with a year of 0 to 9999 is so many seconds since 1970
abbrev pub IsNoTime : ℕ → Type 0
IsNoTime seconds = (t : Time) → IsRealTime t → unix_seconds t ≢ pos seconds

-- a time of 32 bits, in seconds since 1970 ("Keytab file format", timestamp; "Credential cache file format", "Credential format", authtime and those
-- behind it): the time, or the number where there is no such time
abbrev pub time_or_number_of : Label → ℕ → List Token → List Token → Type 0
time_or_number_of label seconds old new =
    ((t : Time) × IsRealTime t × (unix_seconds t ≡ pos seconds) × time_of label t old new) ⊎ (IsNoTime seconds × number_of label (pos seconds) old new)

-- ---- keytabs

-- "Keytab file format", an entry: the principal, when the key was written, the version of the key, and the key
abbrev pub entry_of : Label → Entry → List Token → List Token → Type 0
entry_of label e = struct_of label (
    number_of (of_kind (codes "name-type") NameType) (pos e.name_type)
    then text_of (plain (codes "realm")) e.principal.realm
    then texts_of (plain (codes "components")) e.principal.components
    then time_or_number_of (plain (codes "timestamp")) e.timestamp
    then number_of (plain (codes "vno")) (pos e.kvno)
    then number_of (of_kind (codes "keytype") EncryptionType) (pos e.etype)
    then secret_octets_of (plain (codes "keyvalue")) e.key)

-- "Keytab file format": the entries, in their order
abbrev pub keytab_of : Label → List Entry → List Token → List Token → Type 0
keytab_of label entries = list_of entry_of label entries

-- "Keytab file format": the first error of the octets, from the left; or an allocation failed, and they are a keytab
abbrev pub IsNoKeytab : List ℕ → FilePageError → Type 0
IsNoKeytab octets (errors.Keytab why) = keytab_read octets ≡ Err why
IsNoKeytab octets (errors.Ccache why) = ⊥
IsNoKeytab octets errors.OutOfMemory = (entries : List Entry) × KeytabIs octets entries

-- ---- credential caches

-- how values of a type are shown under a label
abbrev pub ShowsAs : Type 0 → Type 1
ShowsAs A = Label → A → List Token → List Token → Type 0

-- "Credential cache file format", "Principal format"
abbrev pub principal_of : ShowsAs TypedPrincipal
principal_of label p = struct_of label (
    number_of (of_kind (codes "name-type") NameType) (pos p.name_type)
    then text_of (plain (codes "realm")) p.principal.realm
    then texts_of (plain (codes "components")) p.principal.components)

-- "Credential cache file format", "Header format": a field, its tag of 16 bits and its octets
abbrev pub header_field_of : ShowsAs Typed
header_field_of label t = struct_of label (number_of (plain (codes "tag")) (pos t.kind) then octets_of (plain (codes "octets")) t.octets)

-- "Credential cache file format", "Credential format", keyblock
abbrev pub key_of : Label → ℕ → List ℕ → List Token → List Token → Type 0
key_of label etype key = struct_of label (
    number_of (of_kind (codes "keytype") EncryptionType) (pos etype)
    then secret_octets_of (plain (codes "keyvalue")) key)

-- "Credential cache file format", "Credential format", address: under the names of HostAddress (RFC 4120, 5.2.5)
abbrev pub address_of : ShowsAs Typed
address_of label t = struct_of label (
    number_of (of_kind (codes "addr-type") AddressType) (pos t.kind)
    then octets_of (plain (codes "address")) t.octets)

-- "Credential cache file format", "Credential format", authdata: under the names of AuthorizationData (RFC 4120, 5.2.6)
abbrev pub authorization_element_of : ShowsAs Typed
authorization_element_of label t = struct_of label (
    number_of (of_kind (codes "ad-type") AuthorizationDataType) (pos t.kind)
    then octets_of (plain (codes "ad-data")) t.octets)

-- "Credential cache file format", "Credential format", ticket_flags: 32 bits, of which the most significant is bit 0 of TicketFlags (RFC 4120,
-- 5.2.8 and 5.3)
abbrev pub flag_bits : ℕ → Bits
flag_bits flags = record { octets = big_bytes 4 flags; spare = 0 }

-- "Credential cache file format", "Credential format": client, server and keyblock
abbrev pub parties_of : TypedPrincipal → TypedPrincipal → ℕ → List ℕ → List Token → List Token → Type 0
parties_of client server etype key =
    principal_of (plain (codes "client")) client
    then principal_of (plain (codes "server")) server
    then key_of (plain (codes "key")) etype key

-- "Credential cache file format", "Credential format": authtime, starttime, endtime and renew_till
abbrev pub times_of : ℕ → ℕ → ℕ → ℕ → List Token → List Token → Type 0
times_of authtime starttime endtime renew_till =
    time_or_number_of (plain (codes "authtime")) authtime
    then time_or_number_of (plain (codes "starttime")) starttime
    then time_or_number_of (plain (codes "endtime")) endtime
    then time_or_number_of (plain (codes "renew-till")) renew_till

-- "Credential cache file format", "Credential format": is_skey, ticket_flags, addresses and authdata
abbrev pub marks_of : ℕ → ℕ → List Typed → List Typed → List Token → List Token → Type 0
marks_of is_skey flags addresses authorization_data =
    number_of (plain (codes "is-skey")) (pos is_skey)
    then flags_of (of_kind (codes "ticket-flags") TicketFlag) (flag_bits flags)
    then list_of address_of (plain (codes "addresses")) addresses
    then list_of authorization_element_of (plain (codes "authdata")) authorization_data

-- Octets in a ticket's place: a value, as it is shown; others are a secret, where there are any, as what a configuration entry holds ("Credential cache
-- configuration entries").
abbrev pub unread_of : Label → List ℕ → List Token → List Token → Type 0
unread_of label [] = octets_of label []
unread_of label (octet ∷ octets) = secret_octets_of label (octet ∷ octets)

abbrev pub ticket_of : {A : Type 0} → (A → Type 0) → (A → List ℕ) → (Label → A → List Token → List Token → Type 0) → Label → List ℕ
    → List Token → List Token → Type 0
ticket_of is_value enc shows label octets = opened_or is_value enc (shows label) (unread_of label octets) octets

-- "Credential cache file format", "Credential format": ticket and second_ticket, by how octets in a ticket's place are shown
abbrev pub tickets_of : ShowsAs (List ℕ) → List ℕ → List ℕ → List Token → List Token → Type 0
tickets_of shows ticket second_ticket = shows (plain (codes "ticket")) ticket then shows (plain (codes "second-ticket")) second_ticket

-- that an entry was removed, where it was (MIT Kerberos, src/lib/krb5/ccache/cc_file.c, cred_removed)
abbrev pub removal_of : Bool → List Token → List Token → Type 0
removal_of false old new = new ≡ old
removal_of true old new = truth_of (plain (codes "removed")) true old new

-- "Credential cache file format", "Credential format": that it was removed, and all fields, in the order of the file
abbrev pub credential_of : ShowsAs (List ℕ) → ShowsAs Credential
credential_of ticket label c = struct_of label (
    removal_of (is_removed c)
    then parties_of c.client c.server c.etype c.key
    then times_of c.times.authtime c.times.starttime c.times.endtime c.times.renew_till
    then marks_of c.is_skey c.flags c.addresses c.authorization_data
    then tickets_of ticket c.ticket c.second_ticket)

-- "Credential cache file format": the version, the header, which only version 4 has, the default principal and the credentials
abbrev pub ccache_of : ShowsAs (List ℕ) → ShowsAs Ccache
ccache_of ticket label c = struct_of label (
    number_of (plain (codes "version")) (pos (version_octet c.version))
    then list_of header_field_of (plain (codes "header")) c.header
    then principal_of (plain (codes "principal")) c.principal
    then list_of (credential_of ticket) (plain (codes "credentials")) c.credentials)

-- "Credential cache file format": the first error of the octets, from the left; or an allocation failed, and they are a cache
abbrev pub IsNoCcache : List ℕ → FilePageError → Type 0
IsNoCcache octets (errors.Keytab why) = ⊥
IsNoCcache octets (errors.Ccache why) = ccache_read octets ≡ Err why
IsNoCcache octets errors.OutOfMemory = (cache : Ccache) × CcacheIs octets cache
