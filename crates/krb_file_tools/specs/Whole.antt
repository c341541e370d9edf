-- A whole KRB-CRED in the clear (RFC 4120, 5.8.1), the cache that it becomes, and why it becomes none.
use Rattle.std.specs.Prelude.{◌≡◌, ◌≢◌, ◌⊎◌, ℕ, ℤ, pos, Bool, false, List, [], ◌∷◌, Result, Ok, Err, filter, is_none, is_some}
use Rattle.std.specs.List.{list_any}
use Rattle.krb_files.specs.Ccache.{Ccache, CcacheIs, Credential, FitsCcache}
use Rattle.krb_files.specs.Config.{is_removed}
use Rattle.krb_der_core.specs.Errors.{ValueError}
use Rattle.krb_der_core.specs.declared.der.DerEncode.{Ghosts as EncodingOf}
use Rattle.krb_der_core.specs.declared.error.Asn1DerError.{Asn1DerError}
use Rattle.krb_messages.specs.declared.messages.credentials.KrbCredInner.{KrbCredInner}
use Rattle.krb_enc_parts.specs.declared.data_types.credentials.EncKrbCredPartInner.{EncKrbCredPartInner}
use Rattle.krb_enc_parts.specs.declared.data_types.credentials.KrbCredInfo.{KrbCredInfo}
use Rattle.krb_types.specs.declared.data_types.tickets.TicketInner.{TicketInner}
use Rattle.krb_file_tools.specs.Answers.{IsOf}
use Rattle.krb_file_tools.specs.Fields.{has_empty_addresses, has_first_second, has_long_flags, has_other_length}
use Rattle.krb_file_tools.specs.Kirbi.{cache_from}
use Rattle.krb_file_tools.specs.Tickets.{is_configuration}
use Rattle.krb_file_tools.specs.declared.convert.error.ConvertError.{ConvertError}
use Rattle.krb_file_tools.specs.declared.convert.error.ConvertError.TheVariants as errors
use Rattle.krb_file_tools.specs.declared.convert.field.Field.{Field}
use Rattle.krb_file_tools.specs.declared.convert.field.Field.TheVariants as field

-- the first error of octets that are to be the encoding of a value
abbrev pub FirstError : {A : Type 0} → EncodingOf A → List ℕ → Asn1DerError → Type 0
FirstError t octets why = ValueError t.is_value t.enc t.first t.error octets why

-- the octets are the encoding of this value
abbrev pub IsValue : {A : Type 0} → EncodingOf A → List ℕ → A → Type 0
IsValue t octets v = IsOf t.is_value t.enc octets v

-- a message of these numbers is in the clear, and this is its part: an encryption type of 0 (RFC 4120, 5.8.1)
pub record IsClear {P : Type 0} (part : EncodingOf P) (pvno msg_type etype : ℤ) (cipher : List ℕ) (p : P) : Type 0 where
  pub protocol : pvno ≡ pos 5
  pub kind : msg_type ≡ pos 22
  pub clear : etype ≡ pos 0
  pub opened : IsValue part cipher p

-- the first rule that a message of these numbers breaks
pub data ClearError {P : Type 0} (part : EncodingOf P) (pvno msg_type etype : ℤ) (cipher : List ℕ) : ConvertError → Type 0 where
  other_pvno : pvno ≢ pos 5 → ClearError part pvno msg_type etype cipher errors.Pvno
  other_type : pvno ≡ pos 5 → msg_type ≢ pos 22 → ClearError part pvno msg_type etype cipher errors.MsgType
  other_etype : pvno ≡ pos 5 → msg_type ≡ pos 22 → etype ≢ pos 0 → ClearError part pvno msg_type etype cipher errors.Sealed
  no_part : (why : Asn1DerError) → pvno ≡ pos 5 → msg_type ≡ pos 22 → etype ≡ pos 0 → FirstError part cipher why
      → ClearError part pvno msg_type etype cipher (errors.Part why)

-- the octets are the cache that is wanted, and these are its credentials
pub record IsMade (octets : List ℕ) (credentials : List Credential) (wanted : Result Ccache ConvertError) : Type 0 where
  pub cache : Ccache
  pub is_wanted : wanted ≡ Ok cache
  pub is_written : CcacheIs octets cache
  pub has : cache.credentials ≡ credentials

-- a rule says that there is none, or a length or a count of it does not fit its field
abbrev pub IsUnwritten : ConvertError → Result Ccache ConvertError → Type 0
IsUnwritten e wanted = (wanted ≡ Err e) ⊎ ((e ≡ errors.TooLong) × ((cache : Ccache) × (wanted ≡ Ok cache) × (FitsCcache cache → ⊥)))

-- what of this goes along with a ticket
abbrev pub info_has : Field → KrbCredInfo → Bool
info_has field.Flags info = has_long_flags info.flags.0
info_has field.NoSrealm info = is_none info.srealm.0
info_has field.NoSname info = is_none info.sname.0
info_has field.NoFlags info = is_none info.flags.0
info_has field.FlagsLength info = has_other_length info.flags.0
info_has field.FirstSecond info = has_first_second info
info_has field.EmptyCaddr info = has_empty_addresses info.caddr.0
info_has _ info = false

-- a credential is in a cache as this
abbrev pub credential_is : Field → Credential → Bool
credential_is field.AsConfiguration c = is_configuration c
credential_is field.AsRemoved c = is_removed c
credential_is _ c = false

-- what of a KRB-CRED has no place in the cache of these credentials, or stands there in another way
abbrev pub kirbi_has : KrbCredInner → EncKrbCredPartInner → List Credential → Field → Bool
kirbi_has k p made field.Kvno = is_some k.enc_part.kvno.0
kirbi_has k p made field.Nonce = is_some p.nonce.0
kirbi_has k p made field.Timestamp = is_some p.timestamp.0
kirbi_has k p made field.Usec = is_some p.usec.0
kirbi_has k p made field.SAddress = is_some p.s_address.0
kirbi_has k p made field.RAddress = is_some p.r_address.0
kirbi_has k p made field.AsConfiguration = list_any (credential_is field.AsConfiguration) made
kirbi_has k p made field.AsRemoved = list_any (credential_is field.AsRemoved) made
kirbi_has k p made f = list_any (info_has f) p.ticket_info

-- all that may have none, in the order in which it is told
abbrev pub kirbi_fields : List Field
kirbi_fields =
    field.Kvno ∷ field.Flags ∷ field.Nonce ∷ field.Timestamp ∷ field.Usec ∷ field.SAddress ∷ field.RAddress
    ∷ field.NoSrealm ∷ field.NoSname ∷ field.NoFlags ∷ field.FlagsLength ∷ field.FirstSecond ∷ field.EmptyCaddr
    ∷ field.AsConfiguration ∷ field.AsRemoved ∷ []

-- a cache's octets, and what is left out, of a message and its part
pub record IsCacheBy (ticket_octets : TicketInner → List ℕ) (k : KrbCredInner) (p : EncKrbCredPartInner) (written : List ℕ) (left_out : List Field) : Type 0 where
  pub credentials : List Credential
  pub cache : IsMade written credentials (cache_from ticket_octets k.tickets p.ticket_info)
  pub left : left_out ≡ filter (kirbi_has k p credentials) kirbi_fields

-- the same of a message
pub record IsCacheFrom (part : EncodingOf EncKrbCredPartInner) (ticket_octets : TicketInner → List ℕ) (k : KrbCredInner) (written : List ℕ) (left_out : List Field) : Type 0 where
  pub p : EncKrbCredPartInner
  pub clear : IsClear part k.pvno k.msg_type k.enc_part.etype k.enc_part.cipher p
  pub by_part : IsCacheBy ticket_octets k p written left_out

-- the first rule that a message breaks
pub data MessageError (part : EncodingOf EncKrbCredPartInner) (ticket_octets : TicketInner → List ℕ) (k : KrbCredInner) (e : ConvertError) : Type 0 where
  not_clear : ClearError part k.pvno k.msg_type k.enc_part.etype k.enc_part.cipher e → MessageError part ticket_octets k e
  no_cache : (p : EncKrbCredPartInner) → IsClear part k.pvno k.msg_type k.enc_part.etype k.enc_part.cipher p
      → IsUnwritten e (cache_from ticket_octets k.tickets p.ticket_info) → MessageError part ticket_octets k e

-- a cache's octets, and what is left out, of a KRB-CRED's octets
pub record IsCacheOf (message : EncodingOf KrbCredInner) (part : EncodingOf EncKrbCredPartInner) (ticket_octets : TicketInner → List ℕ) (octets : List ℕ)
    (written : List ℕ) (left_out : List Field) : Type 0 where
  pub k : KrbCredInner
  pub whole : IsValue message octets k
  pub from_message : IsCacheFrom part ticket_octets k written left_out

-- the first rule that a KRB-CRED's octets break
pub data KirbiRefusal (message : EncodingOf KrbCredInner) (part : EncodingOf EncKrbCredPartInner) (ticket_octets : TicketInner → List ℕ) (octets : List ℕ)
    (e : ConvertError) : Type 0 where
  no_message : (why : Asn1DerError) → e ≡ errors.Kirbi why → FirstError message octets why → KirbiRefusal message part ticket_octets octets e
  in_message : (k : KrbCredInner) → IsValue message octets k → MessageError part ticket_octets k e → KirbiRefusal message part ticket_octets octets e
