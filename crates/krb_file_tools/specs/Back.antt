-- A whole credential cache, the KRB-CRED in the clear that it becomes (RFC 4120, 5.8.1), and why it becomes none.
use Rattle.std.specs.Prelude.{◌≡◌, ℕ, ◌<◌, ◌==◌, ◌&&◌, nat_lt, pos, Bool, false, not, List, [], ◌∷◌, ◌++◌, length, filter, None, Err}
use Rattle.std.specs.List.{list_any}
use Rattle.krb_files.specs.Ccache.{Ccache, CcacheIs, Credential, TypedPrincipal}
use Rattle.krb_files.specs.Config.{is_removed}
use Rattle.krb_files.specs.CcacheReading.{ccache_of}
use Rattle.krb_files.specs.declared.ccache.error.CcacheError.{CcacheError}
use Rattle.krb_der_core.specs.declared.der.DerEncode.{Ghosts as EncodingOf}
use Rattle.krb_der_core.specs.declared.error.Asn1DerError.{Asn1DerError}
use Rattle.krb_files.specs.Principals.{same_principal}
use Rattle.krb_messages.specs.declared.messages.credentials.KrbCredInner.{KrbCredInner}
use Rattle.krb_enc_parts.specs.declared.data_types.credentials.EncKrbCredPartInner.{EncKrbCredPartInner}
use Rattle.krb_enc_parts.specs.declared.data_types.credentials.KrbCredInfo.{KrbCredInfo}
use Rattle.krb_types.specs.declared.data_types.tickets.TicketInner.{TicketInner}
use Rattle.krb_file_tools.specs.Message.{InfoError, IsInfoOf}
use Rattle.krb_file_tools.specs.Tickets.{is_configuration, tickets_of}
use Rattle.krb_file_tools.specs.Whole.{FirstError, IsValue}
use Rattle.krb_file_tools.specs.declared.convert.error.ConvertError.{ConvertError}
use Rattle.krb_file_tools.specs.declared.convert.error.ConvertError.TheVariants as errors
use Rattle.krb_file_tools.specs.declared.convert.field.Field.{Field}
use Rattle.krb_file_tools.specs.declared.convert.field.Field.TheVariants as field

-- the ticket of a credential, and what goes along with it
pub record IsEntryOf {T : Type 0} (ticket : EncodingOf T) (c : Credential) (t : T) (info : KrbCredInfo) : Type 0 where
  pub along : IsInfoOf c info
  pub ticket_is : IsValue ticket c.ticket t

-- those of each credential, in their order
abbrev pub AreEntriesOf : {T : Type 0} → EncodingOf T → List Credential → List T → List KrbCredInfo → Type 0
AreEntriesOf ticket [] [] [] = Unit {0}
AreEntriesOf ticket [] [] (info ∷ infos) = ⊥
AreEntriesOf ticket [] (t ∷ ts) infos = ⊥
AreEntriesOf ticket (c ∷ cs) [] infos = ⊥
AreEntriesOf ticket (c ∷ cs) (t ∷ ts) [] = ⊥
AreEntriesOf ticket (c ∷ cs) (t ∷ ts) (info ∷ infos) = IsEntryOf ticket c t info × AreEntriesOf ticket cs ts infos

-- the first rule that a credential breaks
pub data CredentialError {T : Type 0} (ticket : EncodingOf T) (c : Credential) : ConvertError → Type 0 where
  no_info : (e : ConvertError) → InfoError c e → CredentialError ticket c e
  no_ticket : (info : KrbCredInfo) (why : Asn1DerError) → IsInfoOf c info → FirstError ticket c.ticket why → CredentialError ticket c (errors.Ticket why)

-- the first credential that breaks a rule
pub record FirstBroken {T : Type 0} (ticket : EncodingOf T) (credentials : List Credential) (e : ConvertError) : Type 0 where
  pub front : List Credential
  pub tickets : List T
  pub infos : List KrbCredInfo
  pub c : Credential
  pub back : List Credential
  pub among : credentials ≡ front ++ c ∷ back
  pub before : AreEntriesOf ticket front tickets infos
  pub broken : CredentialError ticket c e

-- a KRB-CRED of these tickets and what goes along with them, in the clear, with nothing that may be absent (RFC 4120, 5.8.1)
pub record IsMessageOf (part : EncodingOf EncKrbCredPartInner) (tickets : List TicketInner) (infos : List KrbCredInfo) (k : KrbCredInner) (p : EncKrbCredPartInner) : Type 0 where
  pub pvno : k.pvno ≡ pos 5
  pub msg_type : k.msg_type ≡ pos 22
  pub tickets_are : k.tickets ≡ tickets
  pub etype : k.enc_part.etype ≡ pos 0
  pub no_kvno : k.enc_part.kvno.0 ≡ None
  pub cipher : IsValue part k.enc_part.cipher p
  pub infos_are : p.ticket_info ≡ infos
  pub no_nonce : p.nonce.0 ≡ None
  pub no_timestamp : p.timestamp.0 ≡ None
  pub no_usec : p.usec.0 ≡ None
  pub no_s_address : p.s_address.0 ≡ None
  pub no_r_address : p.r_address.0 ≡ None

-- two principals differ: in the type of the name, the realm or a component
abbrev pub differs : TypedPrincipal → TypedPrincipal → Bool
differs p q = not (p.name_type == q.name_type && same_principal p.principal q.principal)

-- the default principal is not the client of the first of the credentials
abbrev pub differs_from_first : TypedPrincipal → List Credential → Bool
differs_from_first p [] = false
differs_from_first p (c ∷ cs) = differs p c.client

-- what a credential has of this
abbrev pub credential_has : Field → Credential → Bool
credential_has field.Configuration c = is_configuration c
credential_has field.Removed c = is_removed c
credential_has field.IsSkey c = not (c.is_skey == 0)
credential_has field.Authdata c = nat_lt 0 (length c.authorization_data)
credential_has field.SecondTicket c = nat_lt 0 (length c.second_ticket)
credential_has _ c = false

-- what of a cache has no place in a KRB-CRED: a header, another default principal, configuration entries, removed credentials, and what tickets have of it
abbrev pub ccache_has : Ccache → Field → Bool
ccache_has cache field.Header = nat_lt 0 (length cache.header)
ccache_has cache field.DefaultPrincipal = differs_from_first cache.principal (tickets_of cache.credentials)
ccache_has cache field.Configuration = list_any (credential_has field.Configuration) cache.credentials
ccache_has cache field.Removed = list_any (credential_has field.Removed) cache.credentials
ccache_has cache f = list_any (credential_has f) (tickets_of cache.credentials)

-- all that may have none, in the order in which it is told
abbrev pub ccache_fields : List Field
ccache_fields = field.Header ∷ field.DefaultPrincipal ∷ field.Configuration ∷ field.Removed ∷ field.IsSkey ∷ field.Authdata ∷ field.SecondTicket ∷ []

-- a KRB-CRED's octets, and what is left out, of a cache's octets
pub record IsKirbiOf (message : EncodingOf KrbCredInner) (part : EncodingOf EncKrbCredPartInner) (ticket : EncodingOf TicketInner) (octets : List ℕ)
    (written : List ℕ) (left_out : List Field) : Type 0 where
  pub cache : Ccache
  pub whole : CcacheIs octets cache
  pub some : 0 < length (tickets_of cache.credentials)
  pub tickets : List TicketInner
  pub infos : List KrbCredInfo
  pub entries : AreEntriesOf ticket (tickets_of cache.credentials) tickets infos
  pub k : KrbCredInner
  pub p : EncKrbCredPartInner
  pub made : IsMessageOf part tickets infos k p
  pub is_written : IsValue message written k
  pub left : left_out ≡ filter (ccache_has cache) ccache_fields

-- the first rule that a cache's octets break
pub data CcacheRefusal (ticket : EncodingOf TicketInner) (octets : List ℕ) : ConvertError → Type 0 where
  no_cache : (why : CcacheError) → ccache_of octets ≡ Err why → CcacheRefusal ticket octets (errors.Ccache why)
  no_credential : (cache : Ccache) → CcacheIs octets cache → tickets_of cache.credentials ≡ [] → CcacheRefusal ticket octets errors.NoCredential
  broken : (cache : Ccache) (e : ConvertError) → CcacheIs octets cache → FirstBroken ticket (tickets_of cache.credentials) e → CcacheRefusal ticket octets e
