-- What a service asks, as the library takes it: keys, terms, what is known of the request, settings.
use Rattle.std.specs.Prelude.{◌≡◌, ◌≢◌, ◌⊎◌, ℕ, ℤ, pos, if◌then◌else◌, List, [], ◌∷◌, length, Option, None, Some, Err}
use Rattle.std.specs.List.{flat_map}
use Rattle.krb_accept.specs.Keytab.{keys_of_entry}
use Rattle.krb_accept.specs.declared.settings.PacCheck.{PacCheck}
use Rattle.krb_accept.specs.declared.settings.PacCheck.TheVariants as pacs
use Rattle.krb_accept.specs.declared.settings.Settings.{Settings}
use Rattle.krb_accept_rules.specs.declared.key.ServiceKey.{ServiceKey}
use Rattle.krb_accept_rules.specs.declared.servers.ServerName.{ServerName}
use Rattle.krb_accept_rules.specs.declared.terms.Arrival.{Arrival}
use Rattle.krb_accept_rules.specs.declared.terms.Terms.{Terms}
use Rattle.krb_files.specs.Entry.{Entry}
use Rattle.krb_files.specs.Keytab.{KeytabIs}
use Rattle.krb_files.specs.KeytabReading.{keytab_of}
use Rattle.krb_files.specs.declared.keytab.error.KeytabError.{KeytabError}
use Rattle.krb_types.specs.declared.data_types.addresses.HostAddress.{HostAddress}
use Rattle.krb_c_calls.specs.declared.call_error.CallError.{CallError}
use Rattle.krb_c_calls.specs.declared.call_error.CallError.TheVariants as refusals
use Rattle.krb_c_accept.specs.Inputs.{Inputs}
use Rattle.krb_c_accept.specs.Names.{AreNoRealms, AreNoServers, AreRealms, AreServers}
use Rattle.krb_c_accept.specs.Options.{AreOptions, has_option}
use Rattle.krb_c_accept.specs.declared.prepared.Prepared.{Prepared}
use Rattle.krb_c_accept.specs.declared.records.AcceptorRecord.{AcceptorRecord}

-- ---- keys (MIT Kerberos, "Keytab file format")

abbrev pub AreKeys : List ℕ → List ServiceKey → Type 0
AreKeys keytab keys = (entries : List Entry) × KeytabIs keytab entries × (keys ≡ flat_map keys_of_entry entries)

abbrev pub IsNoKeytab : List ℕ → Type 0
IsNoKeytab keytab = (why : KeytabError) × (keytab_of keytab ≡ Err why)

abbrev pub HaveNoKeys : List ℕ → CallError → Type 0
HaveNoKeys keytab e = (e ≡ refusals.Memory) ⊎ ((e ≡ refusals.Keytab) × IsNoKeytab keytab)

-- those of a keytab that may be absent
abbrev pub AreOptionalKeys : List ℕ → List ServiceKey → Type 0
AreOptionalKeys keytab keys = ((keytab ≡ []) × (keys ≡ [])) ⊎ ((keytab ≢ []) × AreKeys keytab keys)

abbrev pub HaveNoOptionalKeys : List ℕ → CallError → Type 0
HaveNoOptionalKeys keytab e = (e ≡ refusals.Memory) ⊎ ((keytab ≢ []) × (e ≡ refusals.Keytab) × IsNoKeytab keytab)

-- ---- terms (RFC 4120, 3.2.3)

-- AES (RFC 3962, RFC 8009), and triple DES where it is asked for (16)
abbrev pub etypes_of : ℕ → List ℕ
etypes_of options = if has_option options 16 then 16 ∷ 17 ∷ 18 ∷ 19 ∷ 20 ∷ [] else 17 ∷ 18 ∷ 19 ∷ 20 ∷ []

abbrev pub whole_since_of : AcceptorRecord → Option ℤ
whole_since_of a = if has_option a.options 128 then None else Some a.whole_since

pub record AreTerms (a : AcceptorRecord) (servers realms : List ℕ) (terms : Terms) : Type 0 where
  pub skew : terms.skew ≡ a.skew
  pub addresses : terms.addresses_required ≡ has_option a.options 32
  pub etypes : terms.etypes.items ≡ etypes_of a.options
  pub known_data : terms.known_data.items ≡ 8 ∷ 128 ∷ []
  pub path : terms.unchecked_path ≡ has_option a.options 64
  pub whole : terms.whole_since ≡ whole_since_of a
  pub anonymous : terms.anonymous ≡ has_option a.options 1024
  pub servers_are : AreServers servers terms.servers.items
  pub realms_are : AreRealms realms terms.realms.items

-- ---- what is known of the request

-- none of no octets; else these, of this type (RFC 4120, 5.2.5)
abbrev pub IsAddress : ℕ → List ℕ → Option HostAddress → Type 0
IsAddress type octets None = octets ≡ []
IsAddress type octets (Some address) = (octets ≢ []) × (address.addr_type ≡ pos type) × (address.address ≡ octets)

pub record IsArrival (a : AcceptorRecord) (address : List ℕ) (arrival : Arrival) : Type 0 where
  pub clock : arrival.clock ≡ a.clock
  pub address_is : IsAddress a.address_type address arrival.address

-- ---- what is asked of tokens (RFC 4121, 4.1)

-- a PAC is ignored (4), or required (8), or checked where there is one
abbrev pub pac_of : ℕ → PacCheck
pac_of options = if has_option options 4 then pacs.Ignored else if has_option options 8 then pacs.Required else pacs.Checked

-- an MD5 (RFC 4121, 4.1.1.2), or none
abbrev pub IsHash : List ℕ → Type 0
IsHash bindings = (bindings ≡ []) ⊎ (length bindings ≡ 16)

abbrev pub bindings_of : List ℕ → Option (List ℕ)
bindings_of [] = None
bindings_of (first ∷ others) = Some (first ∷ others)

abbrev pub settings_of : ℕ → Option (List ℕ) → Settings
settings_of options bindings = record {
  bindings = bindings;
  bare_request = has_option options 1;
  other_checksum = has_option options 2;
  pac = pac_of options;
}

-- ---- all of it

pub record IsPrepared (i : Inputs) (p : Prepared) : Type 0 where
  pub random : length i.random ≡ 48
  pub hash : IsHash i.bindings
  pub options : AreOptions i.acceptor i.bindings i.address
  pub keys : AreKeys i.keytab p.keys.items
  pub session_keys : AreOptionalKeys i.session_keys p.session_keys.items
  pub terms : AreTerms i.acceptor i.servers i.realms p.terms
  pub arrival : IsArrival i.acceptor i.address p.arrival
  pub settings : p.settings ≡ settings_of i.acceptor.options (bindings_of i.bindings)

-- ---- the first of these that is not so

-- the random octets, the hash and the options are as they have to be
abbrev pub AreSuch : Inputs → Type 0
AreSuch i = (length i.random ≡ 48) × IsHash i.bindings × AreOptions i.acceptor i.bindings i.address

-- and the keytab is one
abbrev pub HaveKeys : Inputs → Type 0
HaveKeys i = AreSuch i × ((keys : List ServiceKey) × AreKeys i.keytab keys)

-- and that of the service's own tickets is one, or absent
abbrev pub HaveSessionKeys : Inputs → Type 0
HaveSessionKeys i = HaveKeys i × ((keys : List ServiceKey) × AreOptionalKeys i.session_keys keys)

-- and the server has a name, or is absent
abbrev pub HaveServers : Inputs → Type 0
HaveServers i = HaveSessionKeys i × ((servers : List ServerName) × AreServers i.servers servers)

-- An allocation failed; or the first that is not so: there are 48 random octets, and 16 of the hash or none (SeedSize); the options are such (Number); the keytab is
-- one, and then that of the service's own tickets (Keytab); the server's name is one, and then the realm (Invalid).
pub data IsNotPrepared (i : Inputs) (e : CallError) : Type 0 where
  no_memory : e ≡ refusals.Memory → IsNotPrepared i e
  no_random : length i.random ≢ 48 → e ≡ refusals.SeedSize → IsNotPrepared i e
  no_hash : length i.random ≡ 48 → (IsHash i.bindings → ⊥) → e ≡ refusals.SeedSize → IsNotPrepared i e
  no_options : length i.random ≡ 48 → IsHash i.bindings → (AreOptions i.acceptor i.bindings i.address → ⊥) → e ≡ refusals.Number → IsNotPrepared i e
  no_keys : AreSuch i → IsNoKeytab i.keytab → e ≡ refusals.Keytab → IsNotPrepared i e
  no_session_keys : HaveKeys i → i.session_keys ≢ [] → IsNoKeytab i.session_keys → e ≡ refusals.Keytab → IsNotPrepared i e
  no_servers : HaveSessionKeys i → AreNoServers i.servers → e ≡ refusals.Invalid → IsNotPrepared i e
  no_realms : HaveServers i → AreNoRealms i.realms → e ≡ refusals.Invalid → IsNotPrepared i e
